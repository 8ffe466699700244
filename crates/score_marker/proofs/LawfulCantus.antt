-- A cantus of the pools keeps its rules bar by bar exactly where no exercise that has it gives it
-- marks: S2 and the forms K1 to K3 follow from the pools and S4.
use Rattle.std.specs.Prelude.{◌≡◌, ◌≢◌, ℕ, zero, suc, ◌+◌, ◌*◌, ◌/◌, ◌%◌, ◌^◌, ◌<◌, ◌≤◌, ◌==◌, ℤ, pos, negsuc, ◌-ℤ◌, int_lt, unsigned_abs, Bool, true, false, not, ◌&&◌, ◌||◌, nat_lt, [], ◌∷◌, ◌++◌, List, Option, Some, None, Contains, length, map, reverse, slice_get, take, if◌then◌else◌, ◌↔◌, refl}
use Rattle.std.specs.List.{range_with_len}
use Rattle.std.specs.Int.{int_signum}
use Rattle.std.specs.Option.{option_map_or}
use Rattle.std.proofs.Common.{arith, sym, ap, ◌∙◌, eq-eqb}
use Rattle.std.proofs.lemmas.Bool.{and_from, eqb-true, false_from_ne_true, ne_eqb, or_right}
use Rattle.std.proofs.lemmas.Int.{ints}
use Rattle.std.proofs.lemmas.List.{append_assoc, append-nil, length-reverse, length-take-le, reverse-append}
use Rattle.std.proofs.lemmas.Option.{slice_get_within}
use Rattle.fux_pitch.specs.declared.interval.Interval.{Interval}
use Rattle.fux_pitch.specs.declared.mode.Mode.{Mode}
use Rattle.fux_pitch.specs.declared.pitch.Pitch.{Pitch}
use Rattle.fux_pitch.specs.Modes.{final_of, is_in_gamut}
use Rattle.fux_pitch.specs.Pitch.{alter_of, degree_of}
use Rattle.fux_pitch.specs.Size.{interval_between}
use Rattle.std.specs.Ordering.{int_eq}
use Rattle.fux_grid.specs.declared.cell.Cell.{Cell}
use Rattle.fux_grid.specs.declared.cell.Cell.TheVariants.{Rest, Start}
use Rattle.fux_grid.specs.declared.cell.Note.{Note}
use Rattle.fux_grid.specs.declared.exercise.Exercise.{Exercise}
use Rattle.fux_grid.specs.Cells.{first_of, notes_from}
use Rattle.fux_grid.specs.Exercises.{bar_of, slot_of, cantus_cell}
use Rattle.fux_grid.proofs.CantusCells.{cantus_cell-hold}
use Rattle.fux_grid.proofs.Combinations.{Contains-map_only}
use Rattle.rule_law.specs.Bars.{begins_bar}
use Rattle.rule_law.specs.Law.{first_true, second_true, test_from_below}
use Rattle.rule_law.specs.Terms.{falls, holds_of, is_step, rises, move_from, note_pitch, previous_pitch}
use Rattle.melody_rules.specs.Held.{pitches-hold}
use Rattle.melody_rules.specs.Rows.{is_melodic, last_of, moves_unmelodically, pitches, window_rule}
use Rattle.rhythm_cadence.specs.Rows.{begins_last_bar, is_final_in, leaves_gamut}
use Rattle.score_marker.specs.declared.mark.Mark.{Mark}
use Rattle.score_marker.specs.Cantus.{AreCantusMarks, IsCantusBreak, begins_elsewhere, cantus_at, cantus_before, cantus_rule, cantus_rules, ends_elsewhere, ends_without_step, is_cantus_broken, is_not_final}
use Rattle.score_marker.specs.Marks.{mark_at}
use Rattle.score_marker.proofs.CantusLemmas.{are_cantus_marks, bar_lines, cantus_test, starts_at}
use Rattle.score_marker.proofs.ListLemmas.{Contains-nil, Contains-range_only}
use Rattle.score_marker.proofs.MarkLemmas.{made_of_break}
use Rattle.cantus_space.specs.declared.plan.CantusPlan.{CantusPlan}
use Rattle.cantus_space.specs.Cantus.{IsPlan, is_in_pool, is_in_range, is_step_above, may_sound}
use Rattle.cantus_space.specs.Grows.{comes}
use Rattle.cantus_space.specs.Lawful.{IsLawful}
use Rattle.score_marker.specs.Unmarked.{AreOfPools, HasCantus, IsUnmarked}
use Rattle.cantus_space.specs.Order.{pool_sounds}
use Rattle.cantus_space.specs.Rules.{breaks, breaks_some_rule, is_live, may_come}

-- ---- live pitches, bar by bar

reverse-cons : (x : Pitch) (xs ys : List Pitch) → reverse (x ∷ xs) ++ ys ≡ reverse xs ++ x ∷ ys
reverse-cons x xs ys =
    ap (λ zs. zs ++ ys) (reverse-append (x ∷ []) xs) ∙ append_assoc (reverse xs) (x ∷ []) ys

module _ (plan : CantusPlan) where
  live_behind : (ys zs : List Pitch) → is_live plan (ys ++ zs) ≡ true → is_live plan zs ≡ true
  live_behind [] zs h = h
  live_behind (y ∷ ys) zs h =
      live_behind ys zs (first_true (is_live plan (ys ++ zs)) (may_come plan (ys ++ zs) y) h)

  -- the pitches before one that may come are live, and it may come after them
  comes_at : (xs behind : List Pitch) (b : ℕ) (p : Pitch) → is_live plan (reverse xs ++ behind) ≡ true
      → slice_get xs b ≡ Some p → is_live plan (p ∷ reverse (take b xs) ++ behind) ≡ true
  comes_at [] behind b p h e = cc
  comes_at (x ∷ xs) behind zero p h e =
      let same : p ≡ x = cc in
      ap (λ q. is_live plan (q ∷ behind)) same
      ∙ live_behind (reverse xs) (x ∷ behind) (sym (ap (is_live plan) (reverse-cons x xs behind)) ∙ h)
  comes_at (x ∷ xs) behind (suc b) p h e =
      ap (λ ps. is_live plan (p ∷ ps)) (reverse-cons x (take b xs) behind)
      ∙ comes_at xs (x ∷ behind) b p (sym (ap (is_live plan) (reverse-cons x xs behind)) ∙ h) e

  live_from : (xs behind : List Pitch) → is_live plan behind ≡ true → ((b : ℕ) (p : Pitch) → slice_get xs b ≡ Some p
      → may_come plan (reverse (take b xs) ++ behind) p ≡ true) → is_live plan (reverse xs ++ behind) ≡ true
  live_from [] behind h f = h
  live_from (x ∷ xs) behind h f =
      ap (is_live plan) (reverse-cons x xs behind)
      ∙ live_from xs (x ∷ behind) (and_from (is_live plan behind) (may_come plan behind x) h (f 0 x refl))
      (λ b p e. sym (ap (λ ps. may_come plan ps p) (reverse-cons x (take b xs) behind)) ∙ f (suc b) p e)

-- ---- the line of a cantus is its pitches, bar by bar

got : (xs : List Pitch) (b : ℕ) → b < length xs → (p : Pitch) × (slice_get xs b ≡ Some p)
got [] b h = absurd (omega (arith, h))
got (x ∷ xs) zero h = (x, refl)
got (x ∷ xs) (suc b) h = got xs b (omega (arith, h))

taken : (xs : List Pitch) (b : ℕ) (p : Pitch) → slice_get xs b ≡ Some p → take (suc b) xs ≡ take b xs ++ p ∷ []
taken [] b p e = cc
taken (x ∷ xs) zero p e = let same : x ≡ p = cc in ap (λ y. y ∷ []) same
taken (x ∷ xs) (suc b) p e = ap (λ ys. x ∷ ys) (taken xs b p e)

latest_is : (cells : List Cell) → previous_pitch cells ≡ last_of (pitches cells)
latest_is cells = at (notes_from 0 cells)
  where
    at : (ns : List Note) → note_pitch (first_of ns) ≡ slice_get (map (λ n. n.pitch) ns) 0
    at [] = refl
    at (n ∷ ns) = refl

module _ (ex : Exercise) where
  held : (i : ℕ) (p : Pitch) → slice_get ex.cantus (i / 8) ≡ Some p → slot_of i ≢ 0 → pitches (cantus_before ex (suc i))
      ≡ pitches (cantus_before ex i)
  held i p e f =
      ap (λ c. pitches (c ∷ cantus_before ex i))
      (ap (λ o. option_map_or (cantus_cell i) o Rest) e ∙ cantus_cell-hold i p f)
      ∙ pitches-hold p (cantus_before ex i)

  module _ (bar : ℕ) (p : Pitch) (e : slice_get ex.cantus bar ≡ Some p) where
    begun : cantus_at ex (8 * bar) ≡ Start p
    begun =
        let at : (8 * bar) / 8 ≡ bar = omega arith in
        sym (starts_at ex (8 * bar) p (ap (slice_get ex.cantus) at ∙ e) (omega arith))

    within : (k : ℕ) → k < 8 → pitches (cantus_before ex (suc (8 * bar + k)))
        ≡ p ∷ pitches (cantus_before ex (8 * bar))
    within zero h =
        let first : 8 * bar + 0 ≡ 8 * bar = omega arith in
        ap (λ i. pitches (cantus_before ex (suc i))) first
        ∙ ap (λ c. pitches (c ∷ cantus_before ex (8 * bar))) begun
    within (suc k) h =
        let next : 8 * bar + suc k ≡ suc (8 * bar + k) = omega arith in
        let here : suc (8 * bar + k) / 8 ≡ bar = omega (arith, h) in
        ap (λ i. pitches (cantus_before ex (suc i))) next
        ∙ held (suc (8 * bar + k)) p (ap (slice_get ex.cantus) here ∙ e) (λ z. omega (arith, z, h))
        ∙ within k (omega (arith, h))

  history : (b : ℕ) → b ≤ length ex.cantus → pitches (cantus_before ex (8 * b)) ≡ reverse (take b ex.cantus)
  history zero h = refl
  history (suc b) h =
      let own = got ex.cantus b (omega (arith, h)) in
      let next : 8 * suc b ≡ suc (8 * b + 7) = omega arith in
      ap (λ i. pitches (cantus_before ex i)) next ∙ within b own.0 own.1 7 (omega arith)
      ∙ ap (λ ps. own.0 ∷ ps) (history b (omega (arith, h)))
      ∙ sym (ap reverse (taken ex.cantus b own.0 own.1) ∙ reverse-append (take b ex.cantus) (own.0 ∷ []))

-- a rule of a cantus by the pitches before it
abbrev pub rule_on : ℕ → Exercise → ℕ → Option Pitch → List Pitch → Cell → Bool
rule_on rule ex i previous behind now =
    if rule == 2 then leaves_gamut ex i now
    else (if rule == 4 then moves_unmelodically previous now
    else (if rule == 31 then begins_elsewhere ex i now
    else (if rule == 32 then ends_elsewhere ex i now
    else (if rule == 33 then ends_without_step ex i previous now
    else window_rule rule behind now))))

pub broken_by : (ex : Exercise) (b : ℕ) (p : Pitch) (behind : List Pitch) → slice_get ex.cantus b ≡ Some p
    → behind ≡ reverse (take b ex.cantus) → (rule : ℕ) → is_cantus_broken rule ex (8 * b)
    ≡ rule_on rule ex (8 * b) (last_of behind) behind (Start p)
broken_by ex b p behind e f rule =
    let before : List Cell = cantus_before ex (8 * b) in
    let few : b < length ex.cantus = slice_get_within ex.cantus b p e in
    ap (cantus_rule rule ex (8 * b) before) (begun ex b p e)
    ∙ ap (λ previous. rule_on rule ex (8 * b) previous (pitches before) (Start p)) (latest_is before)
    ∙ ap (λ ps. rule_on rule ex (8 * b) (last_of ps) ps (Start p)) (history ex b (omega (arith, few)) ∙ sym f)

-- ---- tests that fail

neither : (b : Bool) {x y : Bool} → x ≡ false → y ≡ false → (if b then x else y) ≡ false
neither true h k = h
neither false h k = k

record AreFalse (a b c d e : Bool) : Type 0 where
  first : a ≡ false
  second : b ≡ false
  third : c ≡ false
  fourth : d ≡ false
  fifth : e ≡ false

five_parts : (a b c d e : Bool) → not (a || (b || (c || (d || (e || false))))) ≡ true → AreFalse a b c d e
five_parts false false false false false h =
    record { first = refl; second = refl; third = refl; fourth = refl; fifth = refl }
five_parts false false false false true h = cc
five_parts false false false true e h = cc
five_parts false false true d e h = cc
five_parts false true c d e h = cc
five_parts true b c d e h = cc

five_none : (a b c d e : Bool) → AreFalse a b c d e → not (a || (b || (c || (d || (e || false))))) ≡ true
five_none a b c d e h = rw (h.first, h.second, h.third, h.fourth, h.fifth) refl

from_not : (b : Bool) → b ≡ true → not b ≡ false
from_not true e = refl
from_not false e = cc

not_false : (b : Bool) → not b ≡ false → b ≡ true
not_false true e = refl
not_false false e = cc

-- ---- K3: a melodic move from the step above the final to the final falls by a step

-- no melodic size has so many degrees
not_of_size : (n m : ℕ) (r : Bool) → (n == 0) ≡ false → (n == 1) ≡ false → (n == 2) ≡ false → (n == 3) ≡ false
    → (n == 4) ≡ false → (n == 5) ≡ false → (n == 7) ≡ false
    → ((((n == 0) && (m == 0)) || (((n == 1) && (m == 1)) || (((n == 1) && (m == 2)) || (((n == 2) && (m == 3))
    || (((n == 2) && (m == 4)) || (((n == 3) && (m == 5)) || (((n == 4) && (m == 7)) || (((n == 7) && (m == 12))
    || false)))))))) || (((n == 5) && (m == 8)) && r)) ≡ true → ⊥
not_of_size n m r z0 z1 z2 z3 z4 z5 z7 h =
    let none : ((((n == 0) && (m == 0)) || (((n == 1) && (m == 1)) || (((n == 1) && (m == 2)) || (((n == 2) && (m == 3))
    || (((n == 2) && (m == 4)) || (((n == 3) && (m == 5)) || (((n == 4) && (m == 7)) || (((n == 7) && (m == 12))
    || false)))))))) || (((n == 5) && (m == 8)) && r)) ≡ false = rw (z0, z1, z2, z3, z4, z5, z7) refl in
    let clash : false ≡ true = sym none ∙ h in
    cc

abbrev move_by : ℤ → ℤ → Interval
move_by d s = record { degrees = d; semitones = s }

-- a move that goes as its degrees go, one down, falls
falls_by_sign : (s : ℤ) → int_eq (negsuc 0) (int_signum s) ≡ true → int_lt s (pos 0) ≡ true
falls_by_sign (pos zero) h = cc
falls_by_sign (pos (suc m)) h = grind (arith, ints, h)
falls_by_sign (negsuc m) h = refl

module _ (a b f : ℕ) (above : b % 7 ≡ (f + 1) % 7) (there : a % 7 ≡ f) where
  goes_down : (d s : ℤ) → d ≡ pos a -ℤ pos b → is_melodic (move_by d s) ≡ true
      → (is_step (move_by d s) && falls (move_by d s)) ≡ true
  goes_down (pos n) s e h =
      let sum : a ≡ b + n = omega (arith, ints, e) in
      absurd (not_of_size n (unsigned_abs s) (rises (move_by (pos n) s))
      (ne_eqb n 0 (λ k. omega (arith, k, sum, above, there)))
      (ne_eqb n 1 (λ k. omega (arith, k, sum, above, there))) (ne_eqb n 2 (λ k. omega (arith, k, sum, above, there)))
      (ne_eqb n 3 (λ k. omega (arith, k, sum, above, there))) (ne_eqb n 4 (λ k. omega (arith, k, sum, above, there)))
      (ne_eqb n 5 (λ k. omega (arith, k, sum, above, there))) (ne_eqb n 7 (λ k. omega (arith, k, sum, above, there)))
      (second_true (int_eq (int_signum (pos n)) (int_signum s)) _ h))
  goes_down (negsuc zero) s e h =
      falls_by_sign s (first_true (int_eq (negsuc 0) (int_signum s)) _ h)
  goes_down (negsuc (suc n)) s e h =
      let sum : b ≡ a + suc (suc n) = omega (arith, ints, e) in
      absurd (not_of_size (suc (suc n)) (unsigned_abs s) (rises (move_by (negsuc (suc n)) s))
      (ne_eqb (suc (suc n)) 0 (λ k. omega (arith, k)))
      (ne_eqb (suc (suc n)) 1 (λ k. omega (arith, k))) (ne_eqb (suc (suc n)) 2 (λ k. omega (arith, k, sum, above, there)))
      (ne_eqb (suc (suc n)) 3 (λ k. omega (arith, k, sum, above, there)))
      (ne_eqb (suc (suc n)) 4 (λ k. omega (arith, k, sum, above, there)))
      (ne_eqb (suc (suc n)) 5 (λ k. omega (arith, k, sum, above, there)))
      (ne_eqb (suc (suc n)) 7 (λ k. omega (arith, k, sum, above, there)))
      (second_true (int_eq (int_signum (negsuc (suc n))) (int_signum s)) _ h))

ends_by_step : (mode : Mode) (q p : Pitch) → is_step_above mode q ≡ true → is_final_in mode p ≡ true
    → is_melodic (interval_between q p) ≡ true
    → (is_step (interval_between q p) && falls (interval_between q p)) ≡ true
ends_by_step mode q p above final melodic =
    goes_down (degree_of p) (degree_of q) (final_of mode)
    (eqb-true (degree_of q % 7) ((final_of mode + 1) % 7) above)
    (eqb-true (degree_of p % 7) (final_of mode)
    (first_true (degree_of p % 7 == final_of mode) (int_eq (alter_of p) (pos 0)) final))
    (interval_between q p).degrees (interval_between q p).semitones refl melodic

-- ---- live pitches have no marks

final_at_end : (plan : CantusPlan) (bar : ℕ) (p : Pitch) → ((bar == 1) || (bar == plan.bars)) ≡ true
    → is_in_pool plan bar p ≡ true → is_final_in plan.mode p ≡ true
final_at_end plan bar p e h = second_true (is_in_range plan p) (is_final_in plan.mode p) (sym (rw e refl) ∙ h)

above_before_end : (plan : CantusPlan) (bar : ℕ) (p : Pitch) → (bar == 1) ≡ false → (bar == plan.bars) ≡ false
    → (bar + 1 == plan.bars) ≡ true → is_in_pool plan bar p ≡ true → is_step_above plan.mode p ≡ true
above_before_end plan bar p first last next h =
    second_true (may_sound plan bar p) (is_step_above plan.mode p) (sym (rw (first, last, next) refl) ∙ h)

module _ (plan : CantusPlan) (valid : IsPlan plan) (ex : Exercise) (cantus behind : List Pitch) (b : ℕ) (p : Pitch)
    (has : HasCantus plan cantus ex) (size : length behind ≡ b) (live : is_live plan (p ∷ behind) ≡ true) where
  coming : may_come plan behind p ≡ true
  coming = second_true (is_live plan behind) (may_come plan behind p) live

  unbroken : AreFalse (breaks behind p 4) (breaks behind p 6) (breaks behind p 7) (breaks behind p 8)
      (breaks behind p 9)
  unbroken = five_parts (breaks behind p 4) (breaks behind p 6) (breaks behind p 7) (breaks behind p 8)
      (breaks behind p 9) (comes plan behind p coming).unbroken

  place : bar_of (8 * b) ≡ length behind + 1
  place = omega (arith, size)

  keeps_gamut : leaves_gamut ex (8 * b) (Start p) ≡ false
  keeps_gamut =
      ap (λ mode. not (is_in_gamut mode (bar_of (8 * b)) ex.bars p)) has.mode
      ∙ ap (λ bars. not (is_in_gamut plan.mode (bar_of (8 * b)) bars p)) has.bars
      ∙ ap (λ bar. not (is_in_gamut plan.mode bar plan.bars p)) place
      ∙ from_not (is_in_gamut plan.mode (length behind + 1) plan.bars p)
      (first_true (is_in_gamut plan.mode (length behind + 1) plan.bars p) (is_in_range plan p)
      (pool_sounds plan (length behind + 1) p (comes plan behind p coming).pool))

  on_final : ((length behind + 1 == 1) || (length behind + 1 == plan.bars)) ≡ true → is_not_final ex (Start p) ≡ false
  on_final e =
      ap (λ mode. not (is_final_in mode p)) has.mode
      ∙ from_not (is_final_in plan.mode p)
      (final_at_end plan (length behind + 1) p e (comes plan behind p coming).pool)

  begins_there : begins_elsewhere ex (8 * b) (Start p) ≡ false
  begins_there = at (8 * b == 0) refl
    where
      at : (t : Bool) → (8 * b == 0) ≡ t → (t && is_not_final ex (Start p)) ≡ false
      at false e = refl
      at true e =
          let none : 8 * b ≡ 0 = eqb-true (8 * b) 0 e in
          let first : length behind + 1 ≡ 1 = omega (arith, none, size) in
          on_final (ap (λ bar. (bar == 1) || (bar == plan.bars)) first)

  is_last_bar : begins_last_bar ex (8 * b) ≡ true → length behind + 1 ≡ plan.bars
  is_last_bar h =
      sym place ∙ eqb-true (bar_of (8 * b)) ex.bars (second_true (begins_bar (8 * b)) (bar_of (8 * b) == ex.bars) h)
      ∙ has.bars

  last_is_final : length behind + 1 ≡ plan.bars → ((length behind + 1 == 1) || (length behind + 1 == plan.bars)) ≡ true
  last_is_final e = or_right (length behind + 1 == 1) (length behind + 1 == plan.bars) (eq-eqb (length behind + 1) plan.bars e)

  ends_there : ends_elsewhere ex (8 * b) (Start p) ≡ false
  ends_there = at (begins_last_bar ex (8 * b)) refl
    where
      at : (t : Bool) → begins_last_bar ex (8 * b) ≡ t → (t && is_not_final ex (Start p)) ≡ false
      at false e = refl
      at true e = on_final (last_is_final (is_last_bar e))

  -- the pitch before the last is of its pool too
  steps_down : (ps : List Pitch) → ps ≡ behind → length behind + 1 ≡ plan.bars
      → holds_of (λ move. is_step move && falls move) (move_from (last_of behind) (Start p)) ≡ true
  steps_down [] e last = absurd (omega (arith, last, ap length e, valid.fewest_bars))
  steps_down (q ∷ older) e last =
      let before : is_live plan (q ∷ older) ≡ true =
      ap (is_live plan) e ∙ first_true (is_live plan behind) (may_come plan behind p) live in
      let pool = (comes plan older q (second_true (is_live plan older) (may_come plan older q) before)).pool in
      let long : length behind ≡ length older + 1 = omega (arith, ap length e) in
      let above : is_step_above plan.mode q ≡ true = above_before_end plan (length older + 1) q
      (ne_eqb (length older + 1) 1 (λ k. omega (arith, k, long, last, valid.fewest_bars)))
      (ne_eqb (length older + 1) plan.bars (λ k. omega (arith, k, long, last)))
      (eq-eqb (length older + 1 + 1) plan.bars (omega (arith, long, last))) pool in
      let final = final_at_end plan (length behind + 1) p (last_is_final last) (comes plan behind p coming).pool in
      let melodic : is_melodic (interval_between q p) ≡ true = not_false (is_melodic (interval_between q p))
      (ap (λ ps. moves_unmelodically (last_of ps) (Start p)) e ∙ unbroken.first) in
      sym (ap (λ ps. holds_of (λ move. is_step move && falls move) (move_from (last_of ps) (Start p))) e)
      ∙ ends_by_step plan.mode q p above final melodic

  ends_by_a_step : ends_without_step ex (8 * b) (last_of behind) (Start p) ≡ false
  ends_by_a_step = at (begins_last_bar ex (8 * b)) refl
    where
      at : (t : Bool) → begins_last_bar ex (8 * b) ≡ t
          → (t && not (holds_of (λ move. is_step move && falls move) (move_from (last_of behind) (Start p)))) ≡ false
      at false e = refl
      at true e = from_not _ (steps_down behind refl (is_last_bar e))

  pub keeps_each : (rule : ℕ) → rule_on rule ex (8 * b) (last_of behind) behind (Start p) ≡ false
  keeps_each rule =
      neither (rule == 2) keeps_gamut (neither (rule == 4) unbroken.first
      (neither (rule == 31) begins_there (neither (rule == 32) ends_there (neither (rule == 33) ends_by_a_step
      (neither (rule == 6) unbroken.second (neither (rule == 7) unbroken.third
      (neither (rule == 8) unbroken.fourth unbroken.fifth)))))))

before_size : (cantus : List Pitch) (b : ℕ) (p : Pitch) → slice_get cantus b ≡ Some p → length (reverse (take b cantus))
    ≡ b
before_size cantus b p e =
    let few : b < length cantus = slice_get_within cantus b p e in
    length-reverse (take b cantus) ∙ length-take-le b cantus (omega (arith, few))

module _ (plan : CantusPlan) (valid : IsPlan plan) (cantus : List Pitch) (whole : length cantus ≡ plan.bars)
    (live : is_live plan (reverse cantus) ≡ true) where
  live_at : (b : ℕ) (p : Pitch) → slice_get cantus b ≡ Some p → is_live plan (p ∷ reverse (take b cantus)) ≡ true
  live_at b p e =
      sym (ap (λ ps. is_live plan (p ∷ ps)) (append-nil (reverse (take b cantus))))
      ∙ comes_at plan cantus [] b p (ap (is_live plan) (append-nil (reverse cantus)) ∙ live) e

  of_pools : AreOfPools plan cantus
  of_pools b p e =
      let behind = reverse (take b cantus) in
      let on = comes plan behind p (second_true (is_live plan behind) (may_come plan behind p) (live_at b p e)) in
      ap (λ n. is_in_pool plan (n + 1) p) (sym (before_size cantus b p e)) ∙ on.pool

  no_break : (ex : Exercise) → HasCantus plan cantus ex → (mark : Mark) → IsCantusBreak ex mark → ⊥
  no_break ex has mark broken =
      let made = made_of_break (cantus_test ex) (2 ^ ex.cantus_voice ∷ []) cantus_rules (bar_lines ex.bars) mark
      (((are_cantus_marks ex).each mark).1 broken) in
      let bar = Contains-map_only (λ bar. 8 * bar) (range_with_len 0 ex.bars) made.place made.in_places in
      let there : bar.0 < ex.bars = Contains-range_only ex.bars bar.0 bar.1 in
      let own = got cantus bar.0 (omega (arith, there, has.bars, whole)) in
      let behind = reverse (take bar.0 cantus) in
      let kept : is_cantus_broken made.rule ex (8 * bar.0) ≡ false =
      broken_by ex bar.0 own.0 behind (ap (λ ps. slice_get ps bar.0) has.pitches ∙ own.1)
      (ap (λ ps. reverse (take bar.0 ps)) (sym has.pitches)) made.rule
      ∙ keeps_each plan valid ex cantus behind bar.0 own.0 has (before_size cantus bar.0 own.0 own.1)
      (live_at bar.0 own.0 own.1) made.rule in
      let same : is_cantus_broken made.rule ex made.place ≡ false =
      ap (is_cantus_broken made.rule ex) (sym bar.2) ∙ kept in
      let clash : false ≡ true = sym same ∙ made.holds in
      cc

  pub unmarked_if_live : IsUnmarked plan cantus
  unmarked_if_live = record {
    whole = whole;
    of_pools = of_pools;
    unmarked = λ ex has. record {
      each = λ mark. (λ in_none. absurd (Contains-nil mark in_none), λ broken. absurd (no_break ex has mark broken));
      ascend = λ i j d h k. absurd (omega (arith, h, k));
    };
  }

-- ---- and unmarked ones are live

-- an exercise that has the cantus
abbrev exercise_of : CantusPlan → List Pitch → Exercise
exercise_of plan cantus = record {
  mode = plan.mode;
  voices = 2;
  bars = plan.bars;
  species = 1;
  species_voice = 1;
  mixed = None;
  cantus_voice = 0;
  cantus = cantus;
  ranges = [];
  relax = [];
  given = [];
  setting = None;
}

module _ (plan : CantusPlan) (cantus : List Pitch) (clean : IsUnmarked plan cantus) where
  has_it : HasCantus plan cantus (exercise_of plan cantus)
  has_it = record { mode = refl; bars = refl; pitches = refl }

  unmarked : AreCantusMarks (exercise_of plan cantus) []
  unmarked = clean.unmarked (exercise_of plan cantus) has_it

  kept : (b rule : ℕ) → b < plan.bars → Contains cantus_rules rule
      → is_cantus_broken rule (exercise_of plan cantus) (8 * b) ≡ false
  kept b rule few in_rules =
      false_from_ne_true (is_cantus_broken rule (exercise_of plan cantus) (8 * b)) (λ broken.
      Contains-nil (mark_at (8 * b) rule 1) ((unmarked.each (mark_at (8 * b) rule 1)).1
      (record {
        place = 8 * b;
        there = omega (arith, few);
        bar = refl;
        slot = refl;
        rule = in_rules;
        voices = refl;
        broken = broken;
      })))

  kept_by : (b : ℕ) (p : Pitch) → slice_get cantus b ≡ Some p → (rule : ℕ) → Contains cantus_rules rule
      → rule_on rule (exercise_of plan cantus) (8 * b) (last_of (reverse (take b cantus))) (reverse (take b cantus))
      (Start p) ≡ false
  kept_by b p e rule in_rules =
      let few : b < length cantus = slice_get_within cantus b p e in
      sym (broken_by (exercise_of plan cantus) b p (reverse (take b cantus)) e refl rule)
      ∙ kept b rule (omega (arith, few, clean.whole)) in_rules

  unbroken_at : (b : ℕ) (p : Pitch) → slice_get cantus b ≡ Some p
      → not (breaks_some_rule (reverse (take b cantus)) p) ≡ true
  unfolding cantus_rules
  unbroken_at b p e =
      let behind = reverse (take b cantus) in
      five_none (breaks behind p 4) (breaks behind p 6) (breaks behind p 7) (breaks behind p 8) (breaks behind p 9)
      (record {
        first = kept_by b p e 4 (1, omega arith, refl);
        second = kept_by b p e 6 (2, omega arith, refl);
        third = kept_by b p e 7 (3, omega arith, refl);
        fourth = kept_by b p e 8 (4, omega arith, refl);
        fifth = kept_by b p e 9 (5, omega arith, refl);
      })

  may_come_at : (b : ℕ) (p : Pitch) → slice_get cantus b ≡ Some p → may_come plan (reverse (take b cantus)) p ≡ true
  may_come_at b p e =
      let behind = reverse (take b cantus) in
      let size = before_size cantus b p e in
      let few : b < length cantus = slice_get_within cantus b p e in
      let room : nat_lt (length behind) plan.bars ≡ true = test_from_below (length behind) plan.bars
      (omega (arith, size, few, clean.whole)) in
      let pool : is_in_pool plan (length behind + 1) p ≡ true =
      ap (λ n. is_in_pool plan (n + 1) p) size ∙ clean.of_pools b p e in
      and_from (nat_lt (length behind) plan.bars && is_in_pool plan (length behind + 1) p)
      (not (breaks_some_rule behind p))
      (and_from (nat_lt (length behind) plan.bars) (is_in_pool plan (length behind + 1) p) room pool)
      (unbroken_at b p e)

  pub live_if_unmarked : is_live plan (reverse cantus) ≡ true
  live_if_unmarked =
      sym (ap (is_live plan) (append-nil (reverse cantus)))
      ∙ live_from plan cantus [] refl (λ b p e.
      ap (λ ps. may_come plan ps p) (append-nil (reverse (take b cantus))) ∙ may_come_at b p e)

pub lawful_is_unmarked : (plan : CantusPlan) → IsPlan plan → (cantus : List Pitch)
    → IsLawful plan cantus ↔ IsUnmarked plan cantus
lawful_is_unmarked plan valid cantus = (
  λ lawful. unmarked_if_live plan valid cantus lawful.whole lawful.live,
  λ clean. record { live = live_if_unmarked plan cantus clean; whole = clean.whole },
)
