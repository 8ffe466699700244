-- What contracts see of a reader of claims.
use Rattle.std.specs.Prelude.{ℕ, ◌+◌, ◌-◌, ◌^◌, ◌≤◌, List, length, Option}
use Rattle.fux_grid.specs.Exercises.{greatest_rule}
use Rattle.cert_text.specs.declared.begun.Begun.{Begun}
use Rattle.cert_text.specs.Begun.{begun_bytes, begun_rule}

-- the place of the next byte, the number of bytes that were used, the bytes of the line that was
-- begun, and the place of the line
-- that was refused
pub record Reading : Type 0 where
  pub next : ℕ
  pub used : ℕ
  pub begun : List ℕ
  pub refused : Option ℕ

-- the place of the line that was begun, or of the next line
abbrev pub line_start : Reading → ℕ
line_start reading = reading.next - length reading.begun

-- a reader after so many bytes more, where these are the bytes of the line that was begun
abbrev pub read_on : Reading → ℕ → List ℕ → Reading
read_on old used begun = record old { next = old.next + used; used = old.used + used; begun = begun }

-- what each reader keeps
pub record IsReading (next used : ℕ) (begun : Begun) : Type 0 where
  pub least_rule : 1 ≤ begun_rule begun
  pub most_rule : begun_rule begun ≤ greatest_rule
  pub begun_used : length (begun_bytes begun) ≤ used
  pub before : used ≤ next
  pub start : next ≤ 2 ^ 40 + used
  pub limit : used ≤ 2 ^ 40
