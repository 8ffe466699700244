-- Two voices move alike where they go the same way by what each of them moves (`alike_by_ways`), so
-- where their headings are one (`told_by_headings`), and what they break together is told by that
-- (`badly_by_ways`, `still_is_fine`).
use Rattle.std.proofs.Common.{◌≡◌, ◌<◌, ◌≤◌, ◌&&◌, ◌||◌, ℕ, length, Bool, true, false, if◌then◌else◌, List, Option, Some, None, refl, ap, ◌∙◌, true≢false, arith}
use Rattle.std.specs.Prelude.{ℤ, int_lt, nat_lt, pos}
use Rattle.std.proofs.lemmas.Bool.Decides.{nat_tests}
use Rattle.std.proofs.lemmas.Int.{ints}
use Rattle.std.proofs.lemmas.List.{get_or_past}
use Rattle.fux_pitch.specs.declared.interval.Interval.{Interval}
use Rattle.fux_grid.specs.declared.cell.Cell.{Cell}
use Rattle.fux_grid.specs.declared.cell.Cell.TheVariants.{Rest, Hold, Start}
use Rattle.fux_grid.specs.declared.exercise.Exercise.{Exercise}
use Rattle.fux_grid.specs.Cells.{cell_in}
use Rattle.rule_law.specs.Pairs.{go_same_way, move_alike, sound_perfect}
use Rattle.rule_law.specs.Terms.{differs, equal_perfects, falls, interval_in, interval_of_cells, moves, rises, same_way}
use Rattle.motion_rules.specs.Clear.{move_badly}
use Rattle.motion_rules.specs.Rows.{are_outer, cross}
use Rattle.motion_rules.specs.Ways.{head_alike, heading, heading_by, way, way_of}

none_goes : (i : Option Interval) → go_same_way i None ≡ false
none_goes None = refl
none_goes (Some i) = refl

both : (a b : Bool) (i j : Option Interval) → go_same_way (if a then i else None) (if b then j else None)
    ≡ ((a && b) && go_same_way i j)
both true true i j = refl
both true false i j = none_goes i
both false b i j = refl

alike_by_ways : (before now : List Cell) (v w : ℕ) → go_same_way (way_of before now v) (way_of before now w)
    ≡ move_alike before now v w
alike_by_ways before now v w =
    both (moves (cell_in before v) (cell_in now v)) (moves (cell_in before w) (cell_in now w))
    (interval_of_cells (cell_in before v) (cell_in now v)) (interval_of_cells (cell_in before w) (cell_in now w))

-- ---- by which way each moves

-- what rises doesn't fall
apart : (step : ℤ) → int_lt (pos 0) step ≡ true → int_lt step (pos 0) ≡ false
apart step up = by (int_lt step (pos 0)) refl
  where
    by : (b : Bool) → int_lt step (pos 0) ≡ b → b ≡ false
    by true e = absurd (omega (arith, ints, e, up))
    by false e = refl

heads_down : (a b : Bool) → head_alike (if a then 1 else (if b then 2 else 0)) 0 ≡ false
heads_down true b = refl
heads_down false true = refl
heads_down false false = refl

four_ways : (a b c d : Bool) → (a ≡ true → b ≡ false) → (c ≡ true → d ≡ false)
    → head_alike (if a then 1 else (if b then 2 else 0)) (if c then 1 else (if d then 2 else 0))
    ≡ ((a && c) || (b && d))
four_ways true b true d f g = refl
four_ways true true false d f g = absurd (true≢false (f refl))
four_ways true false false true f g = refl
four_ways true false false false f g = refl
four_ways false true true true f g = absurd (true≢false (g refl))
four_ways false true true false f g = refl
four_ways false true false true f g = refl
four_ways false true false false f g = refl
four_ways false false c d f g = refl

-- two ways go alike where their headings are one
alike_headings : (one other : Option Interval) → head_alike (heading_by one) (heading_by other) ≡ go_same_way one other
alike_headings None other = refl
alike_headings (Some i) None = heads_down (rises i) (falls i)
alike_headings (Some i) (Some j) =
    four_ways (rises i) (falls i) (rises j) (falls j) (apart i.semitones) (apart j.semitones)

-- a number that is told by a test of the headings is told by the same test of the voices
pub told_by_headings : (before now : List Cell) (v w : ℕ) (test : Bool → Bool) (one other n : ℕ)
    → one ≡ heading before now v → other ≡ heading before now w
    → n ≡ (if test (head_alike one other) then 1 else 0)
    → n ≡ (if test (move_alike before now v w) then 1 else 0)
told_by_headings before now v w test one other n e f g =
    g ∙ ap (λ x. if test (head_alike x other) then 1 else 0) e
    ∙ ap (λ x. if test (head_alike (heading before now v) x) then 1 else 0) f
    ∙ ap (λ b. if test b then 1 else 0)
    (alike_headings (way_of before now v) (way_of before now w) ∙ alike_by_ways before now v w)

-- a voice that a column lacks moves with no other
absent_moves : (c d : Cell) → d ≡ Rest → moves c d ≡ false
absent_moves c Rest e = refl
absent_moves c (Hold q) e = cc
absent_moves c (Start q) e = cc

none_of : (a b x : Bool) → b ≡ false → ◌≡◌ {A = ℕ} (if (a && b) && x then 1 else 0) 0
none_of true b x e = ap (λ y. if y && x then 1 else 0) e
none_of false b x e = refl

pub absent_pair : (before now : List Cell) (v w : ℕ) → length now ≤ w
    → ◌≡◌ {A = ℕ} (if move_alike before now v w then 1 else 0) 0
absent_pair before now v w past =
    none_of (moves (cell_in before v) (cell_in now v)) (moves (cell_in before w) (cell_in now w))
    (go_same_way (interval_of_cells (cell_in before v) (cell_in now v))
    (interval_of_cells (cell_in before w) (cell_in now w)))
    (absent_moves (cell_in before w) (cell_in now w) (get_or_past now w Rest past))

-- ---- a voice moves where it moves by an interval

taken : (b : Bool) (o : Option Interval) (i : Interval) → (if b then o else None) ≡ Some i → (b ≡ true) × (o ≡ Some i)
taken true o i e = (refl, e)
taken false o i e = cc

moving : (before now : List Cell) (v : ℕ) (i : Interval) → way_of before now v ≡ Some i
    → (moves (cell_in before v) (cell_in now v) ≡ true) × (interval_of_cells (cell_in before v) (cell_in now v) ≡ Some i)
moving before now v i e =
    taken (moves (cell_in before v) (cell_in now v)) (interval_of_cells (cell_in before v) (cell_in now v)) i e

none_taken : (b : Bool) (i : Interval) → (if b then Some i else None) ≡ None → b ≡ false
none_taken true i e = cc
none_taken false i e = refl

still_cell : (c d : Cell) → way c d ≡ None → moves c d ≡ false
still_cell c Rest e = refl
still_cell c (Hold q) e = refl
still_cell Rest (Start q) e = refl
still_cell (Hold p) (Start q) e = none_taken (differs (Some p) (Some q)) _ e
still_cell (Start p) (Start q) e = none_taken (differs (Some p) (Some q)) _ e

pub still : (before now : List Cell) (v : ℕ) → way_of before now v ≡ None
    → moves (cell_in before v) (cell_in now v) ≡ false
still before now v e = still_cell (cell_in before v) (cell_in now v) e

below : (n m : ℕ) → n < m → nat_lt n m ≡ true
below n m h = grind (arith, nat_tests)

-- two voices that move, do not cross and do not stay equal, break S17 or nothing
pub badly_by_ways : (ex : Exercise) (before now : List Cell) (v w : ℕ) (i j : Interval) → w < ex.voices
    → cross now v w ≡ false → way_of before now v ≡ Some i → way_of before now w ≡ Some j
    → equal_perfects (interval_in before v w) (interval_in now v w) ≡ false
    → move_badly ex before now v w ≡ (are_outer ex v w && (same_way i j && sound_perfect now v w))
badly_by_ways ex before now v w i j there apart one other unequal =
    let mine = moving before now v i one in
    let its = moving before now w j other in
    rw (below w ex.voices there, apart, unequal, mine.0, mine.1, its.0, its.1) refl

none_breaks : (m e o s p : Bool) → (((m && false) && e) || (o && (((m && false) && s) && p))) ≡ false
none_breaks true e true s p = refl
none_breaks true e false s p = refl
none_breaks false e true s p = refl
none_breaks false e false s p = refl

-- two voices of which the second is still, and that do not cross, break nothing
pub still_is_fine : (ex : Exercise) (before now : List Cell) (v w : ℕ) → w < ex.voices → cross now v w ≡ false
    → way_of before now w ≡ None → move_badly ex before now v w ≡ false
still_is_fine ex before now v w there apart other =
    rw (below w ex.voices there, apart, still before now w other)
    (none_breaks (moves (cell_in before v) (cell_in now v))
    (equal_perfects (interval_in before v w) (interval_in now v w)) (are_outer ex v w)
    (go_same_way (interval_of_cells (cell_in before v) (cell_in now v))
    (interval_of_cells (cell_in before w) (cell_in now w))) (sound_perfect now v w))
