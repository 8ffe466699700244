-- What the head says of a cantus with its penalty, or of none.
use Rattle.std.specs.Prelude.{ℕ, List, Option, None, Some}
use Rattle.std.specs.Borrow.{Bor}
use Rattle.fux_pitch.specs.declared.pitch.Pitch.{Pitch}
use Rattle.cantus_check.specs.Claims.{Said}

-- what the head says of the best cantus, or of none
abbrev pub said_with : Option (Bor (List Pitch) × ℕ) → Said
said_with None = None
said_with (Some best) = Some (best.1, best.0.now)
