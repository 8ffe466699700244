-- The readings of all rules of the crate, and the laws of Q15.
use Rattle.std.specs.Prelude.{ℕ, ◌≡◌, ◌==◌, Bool, true, false, if◌then◌else◌, refl}
use Rattle.fux_grid.specs.declared.exercise.Exercise.{Exercise}
use Rattle.rule_law.specs.Law.{at_once_settles, local_from_row}
use Rattle.rule_law.specs.Places.{IsLocal, SettlesAtEnd, reading_of, settled_by, Reading}
use Rattle.rule_law.specs.Rulebooks.{RuleRow}
use Rattle.rhythm_cadence.specs.Book.{at_once_row, cadence_rule, is_late, ligature_row, quaver_rule, rule_row, shape_rule}

-- the readings of the book's rules
abbrev pub book_breaks : ℕ → Exercise → ℕ → Reading Bool
book_breaks rule ex voices = reading_of ((rule_row rule).broken ex voices)

-- ---- what holds of them

-- what holds of each rule that is read at once, and of S3, S22 and S25, holds of each of the book
pub by_row : (P : RuleRow → Type 0) → ((n : ℕ) → is_late n ≡ false → P (at_once_row n))
    → P shape_rule → P cadence_rule → P quaver_rule → (n : ℕ) → P (rule_row n)
by_row P early shape cadence quaver n = at (is_late n) refl
  where
    late : P (if n == 3 then shape_rule else (if n == 22 then cadence_rule else quaver_rule))
    late = choose (n == 3) (n == 22)
      where
        choose : (a b : Bool) → P (if a then shape_rule else (if b then cadence_rule else quaver_rule))
        choose true b = shape
        choose false true = cadence
        choose false false = quaver

    at : (b : Bool) → is_late n ≡ b → P (rule_row n)
    at true e = rw e late
    at false e = rw e (early n e)

pub ligature_is_local : (ex : Exercise) → IsLocal ex (reading_of (ligature_row.cost ex))
    (settled_by (ligature_row.enough ex))
ligature_is_local ex =
    local_from_row ex (ligature_row.cost ex) (ligature_row.enough ex) (λ i behind now ahead t h. refl)

pub ligature_settles_at_end : (ex : Exercise) → SettlesAtEnd ex (settled_by (ligature_row.enough ex))
ligature_settles_at_end ex = at_once_settles ex
