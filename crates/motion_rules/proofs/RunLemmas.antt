-- How many pairs of voices pass a test, added up one by one (`count_pairs-written`), and that a
-- voice which a column lacks goes on with none (`no_run`).
use Rattle.std.proofs.Common.{◌≡◌, ℕ, ◌+◌, ◌≤◌, Bool, true, false, ◌&&◌, ◌||◌, cond, List, [], length, refl, ap, ◌∙◌, arith}
use Rattle.std.specs.Int.{from_bool}
use Rattle.std.specs.Prelude.{slice_index_or, if◌then◌else◌}
use Rattle.std.proofs.lemmas.List.{get_or_past}
use Rattle.fux_grid.specs.declared.cell.Cell.{Cell}
use Rattle.fux_grid.specs.declared.cell.Cell.TheVariants.{Rest, Hold, Start}
use Rattle.fux_grid.specs.Cells.{cell_in}
use Rattle.rule_law.specs.Pairs.{count_pairs}
use Rattle.rule_law.specs.Terms.{holds_of, interval_of_cells}
use Rattle.rule_law.specs.Voices.{voice_pairs}
use Rattle.motion_rules.specs.Runs.{four_bar_lines_at, is_imperfect_of, keep_on, sound_imperfect}

pub count_pairs-written : (test : ℕ → ℕ → Bool) (a b c d e f : ℕ) → a ≡ (if test 0 1 then 1 else 0)
    → b ≡ (if test 0 2 then 1 else 0) → c ≡ (if test 0 3 then 1 else 0) → d ≡ (if test 1 2 then 1 else 0)
    → e ≡ (if test 1 3 then 1 else 0) → f ≡ (if test 2 3 then 1 else 0) → a + b + c + d + e + f ≡ count_pairs test
unfolding voice_pairs
count_pairs-written test a b c d e f p q r s t u =
    let counted : count_pairs test
    ≡ 0 + cond (test 0 1) 1 0 + cond (test 0 2) 1 0 + cond (test 0 3) 1 0 + cond (test 1 2) 1 0 + cond (test 1 3) 1 0
    + cond (test 2 3) 1 0 = refl in
    omega (arith, counted, p, q, r, s, t, u)

-- a cell and a rest have no interval
silent : (degrees : ℕ) (c : Cell) → holds_of (is_imperfect_of degrees) (interval_of_cells c Rest) ≡ false
silent degrees Rest = refl
silent degrees (Hold p) = refl
silent degrees (Start p) = refl

unsounded : (degrees : ℕ) (col : List Cell) (v w : ℕ) → length col ≤ w → sound_imperfect degrees col v w ≡ false
unsounded degrees col v w past =
    ap (λ c. holds_of (is_imperfect_of degrees) (interval_of_cells (cell_in col v) c)) (get_or_past col w Rest past)
    ∙ silent degrees (cell_in col v)

pub no_run : (s : List (List Cell)) (i v w : ℕ) → length (slice_index_or s i []) ≤ w
    → keep_on (four_bar_lines_at s i) v w ≡ false
no_run s i v w past = rw (unsounded 2 (slice_index_or s i []) v w past, unsounded 5 (slice_index_or s i []) v w past) refl

-- of two tests together with others, each alone tells where it passes and the other one doesn't
pub first_tells : (p q a b : Bool) → p ≡ true → q ≡ false → a ≡ ((p && a) || (q && b))
first_tells p q a b e f = rw (e, f) (alone a)
  where
    alone : (a : Bool) → a ≡ (a || false)
    alone true = refl
    alone false = refl

pub second_tells : (p q a b : Bool) → p ≡ false → q ≡ true → b ≡ ((p && a) || (q && b))
second_tells p q a b e f = rw (e, f) refl

pub neither_tells : (p q a b : Bool) → p ≡ false → q ≡ false → ((p && a) || (q && b)) ≡ false
neither_tells p q a b e f = rw (e, f) refl

-- a test as a number
pub number_of : (b : Bool) → from_bool b ≡ (if b then 1 else 0)
number_of true = refl
number_of false = refl
