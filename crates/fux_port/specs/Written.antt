-- What is told of the bytes that a sink has taken: nothing, or all of them.
use Rattle.std.specs.Prelude.{◌≡◌, ℕ, ◌<◌, List, ◌++◌, Option, Some, None, length, take}

-- what is told after these bytes more
abbrev pub appended : Option (List ℕ) → List ℕ → Option (List ℕ)
appended None bytes = None
appended (Some taken) bytes = Some (taken ++ bytes)

-- of these bytes a front that is shorter than all was taken
pub record StopsShort (old new : Option (List ℕ)) (bytes : List ℕ) : Type 0 where
  pub count : ℕ
  pub short : count < length bytes
  pub front : new ≡ appended old (take count bytes)
