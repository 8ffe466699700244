-- Lines that come one after the other.
use Rattle.std.specs.Prelude.{ℕ, List, [], ◌++◌, Option, Some, None}
use Rattle.arrayvec.specs.ArrayString.{ArrayString}

-- a line, if there is one, and bytes behind it
abbrev pub lines_with : Option ArrayString → List ℕ → List ℕ
lines_with None later = []
lines_with (Some line) later = line.bytes ++ later
