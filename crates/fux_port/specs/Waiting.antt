-- Bytes that wait to be written.
use Rattle.std.specs.Prelude.{◌≡◌, ℕ, List, ◌++◌, Option}
use Rattle.fux_port.specs.Written.{appended}

-- a line is put behind the bytes that wait: some bytes are written first, and all of them are in
-- order
pub record Puts (old new : Option (List ℕ)) (waiting next line : List ℕ) : Type 0 where
  pub sent : List ℕ
  pub told : new ≡ appended old sent
  pub bytes : sent ++ next ≡ waiting ++ line
