-- What contracts see of a reader of potentials.
use Rattle.std.specs.Prelude.{◌≡◌, ℕ, ◌+◌, ◌-◌, ◌^◌, ◌≤◌, Bool, nat_lt, List, length, Option}
use Rattle.cert_text.specs.declared.stated_line.StatedLine.{StatedLine}
use Rattle.cert_text.specs.StatedLines.{IsStatedLine, is_of_potential, stated_bytes}

-- the place of the next byte, the number of bytes that were used, the bytes of the line that was
-- begun, how many potentials there are to be and how many were given, whether the line `claims` was
-- taken, and the place of the line that was refused
pub record PotentialReading : Type 0 where
  pub next : ℕ
  pub used : ℕ
  pub begun : List ℕ
  pub count : ℕ
  pub given : ℕ
  pub done : Bool
  pub refused : Option ℕ

-- the place of the line that was begun, or of the next line
abbrev pub potential_line_start : PotentialReading → ℕ
potential_line_start reading = reading.next - length reading.begun

-- a potential's line is owed; else the line `claims`
abbrev pub owes_potential : PotentialReading → Bool
owes_potential reading = nat_lt reading.given reading.count

-- a reader after so many bytes more, where so many potentials were given, and these are the bytes
-- of the line that was begun
abbrev pub potentials_on : PotentialReading → ℕ → List ℕ → ℕ → PotentialReading
potentials_on old used begun given =
    record old { next = old.next + used; used = old.used + used; begun = begun; given = given }

-- what each reader keeps
pub record IsPotentialReading (next used : ℕ) (line : StatedLine) (count given : ℕ) : Type 0 where
  pub line_is : IsStatedLine line
  pub kind : is_of_potential line ≡ nat_lt given count
  pub few : given ≤ count
  pub begun_used : length (stated_bytes line) ≤ used
  pub before : used ≤ next
  pub start : next ≤ 2 ^ 40 + used
  pub limit : used ≤ 2 ^ 40
