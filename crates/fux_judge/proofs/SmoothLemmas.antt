-- What is told of a column that breaks no rule of melody.
use Rattle.std.proofs.Common.{◌≡◌, ℕ, ◌<◌, ◌≤◌, ◌&&◌, ◌||◌, Bool, true, false, Option, Some, None, List, [], length, refl, ap, sym, ◌∙◌, true≢false, arith}
use Rattle.std.specs.Prelude.{nat_lt, ◌==◌}
use Rattle.std.proofs.lemmas.Bool.{and_right}
use Rattle.std.proofs.lemmas.Bool.Decides.{nat_tests}
use Rattle.fux_pitch.specs.declared.interval.Interval.{Interval}
use Rattle.fux_pitch.specs.declared.pitch.Pitch.{Pitch}
use Rattle.fux_grid.specs.declared.cell.Cell.{Cell}
use Rattle.fux_grid.specs.declared.cell.Cell.TheVariants.{Rest, Hold, Start}
use Rattle.fux_grid.specs.declared.exercise.Exercise.{Exercise}
use Rattle.fux_grid.specs.Cells.{cell_in}
use Rattle.fux_grid.specs.Columns.{line}
use Rattle.fux_grid.specs.Exercises.{species_in}
use Rattle.rule_law.specs.Terms.{interval_of_pitches, starts}
use Rattle.rule_law.specs.Voices.{is_free}
use Rattle.melody_rules.specs.Rows.{bars_repetitions, before_last, holds_of_both, last_of, pitches}
use Rattle.melody_rules.specs.Smooth.{is_rough, is_rough_at, is_rough_line, is_rough_move, some_rough}

pub neither : (a b : Bool) → a ≡ false → b ≡ false → (a || b) ≡ false
neither a b e f = rw (e, f) refl

still_move : (b : Bool) → (false || ((b && false) || false)) ≡ false
still_move true = refl
still_move false = refl

still_line : (f g h : Interval → Interval → Bool) (i : Option Interval) (b : Bool)
    → ((holds_of_both f i None && false) || (holds_of_both g i None || ((holds_of_both h i None && b) || false)))
    ≡ false
still_line f g h None b = refl
still_line f g h (Some i) b = refl

-- a cell in which no note starts breaks no rule of melody
still_cell : (species : ℕ) (ps : List Pitch) (c : Cell) → starts c ≡ false → is_rough species ps c ≡ false
still_cell species ps Rest h =
    neither (is_rough_move species (last_of ps) Rest) (is_rough_line ps Rest) (still_move (bars_repetitions species))
    (still_line _ _ _ (interval_of_pitches (before_last ps) (last_of ps)) _)
still_cell species ps (Hold p) h =
    neither (is_rough_move species (last_of ps) (Hold p)) (is_rough_line ps (Hold p))
    (still_move (bars_repetitions species))
    (still_line _ _ _ (interval_of_pitches (before_last ps) (last_of ps)) _)
still_cell species ps (Start p) h = cc

pub still_voice : (ex : Exercise) (behind : List (List Cell)) (now : List Cell) (v : ℕ)
    → starts (cell_in now v) ≡ false → is_rough_at ex behind now v ≡ false
still_voice ex behind now v h =
    and_right (nat_lt v ex.voices) (is_free ex v && is_rough (species_in ex v) (pitches (line v behind)) (cell_in now v))
    (and_right (is_free ex v) (is_rough (species_in ex v) (pitches (line v behind)) (cell_in now v))
    (still_cell (species_in ex v) (pitches (line v behind)) (cell_in now v) h))

-- nor one that isn't there
pub absent_smooth : (ex : Exercise) (behind : List (List Cell)) (now : List Cell) (v : ℕ) → nat_lt v ex.voices ≡ false
    → is_rough_at ex behind now v ≡ false
absent_smooth ex behind now v h =
    ap (λ b. b && (is_free ex v && is_rough (species_in ex v) (pitches (line v behind)) (cell_in now v))) h

pub not_below : (a b : ℕ) → b ≤ a → nat_lt a b ≡ false
not_below a b h = grind (arith, nat_tests)

-- a list isn't empty where a test says so
pub filled : {A : Type 0} (xs : List A) → false ≡ (length xs == 0) → xs ≡ [] → ⊥
filled xs e nil = true≢false (sym (e ∙ ap (λ ys. length ys == 0) nil))

-- where none of the four does, the column doesn't
pub none_rough : (ex : Exercise) (behind : List (List Cell)) (now : List Cell)
    → ((v : ℕ) → v < 4 → is_rough_at ex behind now v ≡ false) → some_rough ex behind now ≡ false
none_rough ex behind now none =
    neither (is_rough_at ex behind now 0) _ (none 0 (omega arith))
    (neither (is_rough_at ex behind now 1) _ (none 1 (omega arith))
    (neither (is_rough_at ex behind now 2) _ (none 2 (omega arith))
    (neither (is_rough_at ex behind now 3) false (none 3 (omega arith)) refl)))
