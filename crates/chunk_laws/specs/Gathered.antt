-- What is gathered from parts that may be lacking.
use Rattle.std.specs.Prelude.{◌≡◌, List, [], Result, Ok, Err}
use Rattle.std.specs.List.{All, flat_map}
use Rattle.std.specs.Result.{IsOk}
use Rattle.std.specs.declared.alloc.Global.{Global}
use Rattle.std.specs.declared.vec.Vec.{Vec}
use Rattle.fux_pitch.specs.declared.memory.Memory.{Memory}

-- the items of a part
abbrev pub items_in : {X : Type 0} → Result (Vec X Global) Memory → List X
items_in (Ok part) = part.items
items_in (Err fault) = []

-- each part is there, and these are the items of all, in order
pub record AreGathered {X : Type 0} (parts : List (Result (Vec X Global) Memory)) (items : List X) : Type 0 where
  pub each : All IsOk parts
  pub all : items ≡ flat_map items_in parts
