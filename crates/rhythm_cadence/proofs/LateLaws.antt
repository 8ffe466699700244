-- S25 and Q16 wait for later columns. Once settled they read the same in each prefix that goes on,
-- and so in each setting.
use Rattle.std.specs.Prelude.{◌≡◌, ℕ, ◌+◌, ◌-◌, ◌%◌, ◌<◌, ◌≤◌, ◌==◌, Bool, true, false, not, ◌&&◌, ◌||◌, nat_le, nat_lt, List, [], ◌∷◌, ◌++◌, Option, Some, None, cond, length, drop, take, reverse, slice_index_or, refl}
use Rattle.std.specs.List.{list_all}
use Rattle.std.proofs.Common.{ap, sym, ◌∙◌, subst, arith, drop-cons}
use Rattle.std.proofs.Math.ListN.{get_or-append}
use Rattle.std.proofs.lemmas.Bool.{and_from, and_right, eqb-true, not-true, or_right}
use Rattle.std.proofs.lemmas.Bool.Decides.{nat_tests}
use Rattle.std.proofs.lemmas.List.{length-append, length-drop, reverse-reverse, take-append-drop}
use Rattle.fux_grid.specs.declared.cell.Cell.{Cell}
use Rattle.fux_grid.specs.declared.cell.Cell.TheVariants.{Rest, Hold, Start}
use Rattle.fux_grid.specs.declared.exercise.Exercise.{Exercise}
use Rattle.fux_grid.specs.Cells.{cell_in, first_of, is_hold, onsets_from, pitch_of, same_cell}
use Rattle.fux_grid.specs.Columns.{earlier, line, newest_column}
use Rattle.fux_grid.specs.Exercises.{IsFree, slot_of, species_in}
use Rattle.fux_grid.specs.Orderly.{IsOrderly}
use Rattle.fux_grid.proofs.Histories.{line-more}
use Rattle.fux_grid.proofs.OrderlyLemmas.{orderly-fewer}
use Rattle.rule_law.specs.After.{onset_pitch}
use Rattle.rule_law.specs.Bars.{begins_bar}
use Rattle.rule_law.specs.Growth.{EnoughStays, sum_by-same}
use Rattle.rule_law.proofs.LateLaw.{StaysAhead, by_either, ends_when_whole, local_from_ahead, whole_same, whole_stays}
use Rattle.rule_law.specs.Law.{or_each, local_from_row, test_from_below}
use Rattle.rule_law.specs.Nearby.{RestsFirst}
use Rattle.rule_law.specs.OrderlyLaw.{free_rests}
use Rattle.rule_law.specs.Places.{IsLocal, IsUndisturbed, SettlesAtEnd, reading_of, settled_by}
use Rattle.rule_law.specs.Quiet.{count_free-none}
use Rattle.rule_law.specs.Terms.{previous_pitch, starts}
use Rattle.rule_law.specs.Voices.{count_free, holds_of_voice, is_free, voice_of}
use Rattle.rule_law.specs.Whole.{is_whole}
use Rattle.rhythm_cadence.specs.Patterns.{is_pattern, pattern_enough, pattern_toll, repeats_bar, repeats_slot}
use Rattle.rhythm_cadence.specs.Quavers.{is_step_apart, is_stepwise, quaver_enough, quaver_row, starts_quaver}

-- ---- S25

-- in an orderly list a free voice doesn't rest after it sounded
after_rest : (c d : Cell) (cells : List Cell) → RestsFirst (d ∷ c ∷ cells) → d ≡ Rest → starts c ≡ false
after_rest c (Hold p) cells r e = cc
after_rest c (Start p) cells r e = cc
after_rest Rest Rest cells r e = refl
after_rest (Hold p) Rest cells r e = refl
after_rest (Start p) Rest cells r e = absurd r

-- its line up to a place has rests first
pub rests_earlier : (ex : Exercise) (p : List (List Cell)) (n v : ℕ) → IsFree ex v → IsOrderly ex p
    → RestsFirst (line v (earlier p n))
unfolding earlier
rests_earlier ex p n v free orderly =
    let O : List (List Cell) → Type 0 = λ s. IsOrderly ex s in
    let fewer : IsOrderly ex (take n p) = orderly-fewer ex (take n p) (drop n p)
    (subst O (sym (take-append-drop n p)) orderly) in
    free_rests ex v free (reverse (take n p)) (subst O (sym (reverse-reverse (take n p))) fewer)

rest_after : (ex : Exercise) (p : List (List Cell)) (i v : ℕ) → IsFree ex v → IsOrderly ex p → i + 1 < length p
    → cell_in (slice_index_or p (i + 1) []) v ≡ Rest → starts (cell_in (slice_index_or p i []) v) ≡ false
rest_after ex p i v free orderly here rest =
    let R : List Cell → Type 0 = λ cells. RestsFirst cells in
    let cells : line v (earlier p (i + 1 + 1)) ≡ cell_in (slice_index_or p (i + 1) []) v
    ∷ cell_in (slice_index_or p i []) v ∷ line v (earlier p i) =
    line-more p v (i + 1) here ∙ ap (λ cs. cell_in (slice_index_or p (i + 1) []) v ∷ cs)
    (line-more p v i (omega (arith, here))) in
    after_rest (cell_in (slice_index_or p i []) v) (cell_in (slice_index_or p (i + 1) []) v) (line v (earlier p i))
    (subst R cells (rests_earlier ex p (i + 1 + 1) v free orderly)) rest

-- the row of one voice, from its next cell and those after it
from_next : ℕ → List (List Cell) → List Cell → ℕ → Cell → List Cell → Bool
from_next i behind now v next cells =
    (starts (cell_in now v) && not (is_hold next))
    && not (is_step_apart (previous_pitch (line v behind)) (pitch_of (cell_in now v))
    && is_step_apart (pitch_of (cell_in now v)) (onset_pitch (first_of (onsets_from (i + 1) (next ∷ cells)))))

-- the next cell tells all, if it isn't a rest after a note
next_tells : (i : ℕ) (behind : List (List Cell)) (now : List Cell) (v : ℕ) (next : Cell) (xs ys : List Cell)
    → (next ≡ Rest → starts (cell_in now v) ≡ false) → from_next i behind now v next xs
    ≡ from_next i behind now v next ys
unfolding from_next
next_tells i behind now v (Start p) xs ys f = refl
next_tells i behind now v (Hold p) xs ys f = held (starts (cell_in now v)) _ _
  where
    held : (s x y : Bool) → ((s && false) && x) ≡ ((s && false) && y)
    held true x y = refl
    held false x y = refl
next_tells i behind now v Rest xs ys f = silent (starts (cell_in now v)) _ _ (f refl)
  where
    silent : (s x y : Bool) → s ≡ false → ((s && true) && x) ≡ ((s && true) && y)
    silent true x y e = cc
    silent false x y e = refl

voice_same : (i : ℕ) (behind : List (List Cell)) (now : List Cell) (ahead t : List (List Cell)) (v : ℕ)
    → 0 < length ahead → (cell_in (newest_column ahead) v ≡ Rest → starts (cell_in now v) ≡ false)
    → (starts_quaver now (ahead ++ t) v && not (is_stepwise i behind now (ahead ++ t) v))
    ≡ (starts_quaver now ahead v && not (is_stepwise i behind now ahead v))
unfolding from_next
voice_same i behind now [] t v some f = absurd (omega (arith, some))
voice_same i behind now (col ∷ ahead) t v some f =
    next_tells i behind now v (cell_in col v) (line v (ahead ++ t)) (line v ahead) f

-- two tests that agree for each free voice agree for the voice of a set
pub same_on_voice : (ex : Exercise) (f g : ℕ → Bool) (voice : Option ℕ) → ((v : ℕ) → IsFree ex v → f v ≡ g v)
    → holds_of_voice ex (λ v. is_free ex v && f v) voice ≡ holds_of_voice ex (λ v. is_free ex v && g v) voice
same_on_voice ex f g None same = refl
same_on_voice ex f g (Some v) same = at (nat_lt v ex.voices) (v == ex.cantus_voice) refl refl
  where
    at : (there cantus : Bool) → nat_lt v ex.voices ≡ there → (v == ex.cantus_voice) ≡ cantus
        → (there && (not cantus && f v)) ≡ (there && (not cantus && g v))
    at false cantus e k = refl
    at true true e k = refl
    at true false e k = same v (record { there = grind (arith, nat_tests, e); no_cantus = grind (arith, nat_tests, k) })

quaver_stays_ahead : (ex : Exercise) (voices : ℕ) → StaysAhead ex (quaver_row ex voices) (quaver_enough ex voices)
quaver_stays_ahead ex voices p t i on here h =
    by_either (nat_lt 0 (length (drop (i + 1) p))) (is_whole ex i (drop (i + 1) p)) h
    (λ k.
    let some : 0 < length (drop (i + 1) p) = grind (arith, nat_tests, k) in
    let within : i + 1 < length p = omega (arith, some, length-drop (i + 1) p) in
    let newest : newest_column (drop (i + 1) p)
    ≡ slice_index_or p (i + 1) [] = ap newest_column (drop-cons p (i + 1) [] within) in
    same_on_voice ex _ _ (voice_of voices) (λ v free.
    voice_same i (earlier p i) (slice_index_or p i []) (drop (i + 1) p) t v some
    (λ e. rest_after ex p i v free on.orderly within (sym (ap (λ col. cell_in col v) newest) ∙ e))))
    (λ k. whole_same ex (quaver_row ex voices) p t i on here k)

pub quaver_is_local : (ex : Exercise) (voices : ℕ)
    → IsLocal ex (reading_of (quaver_row ex voices)) (settled_by (quaver_enough ex voices))
quaver_is_local ex voices =
    local_from_ahead ex (quaver_row ex voices) (quaver_enough ex voices) (quaver_stays_ahead ex voices)

more_ahead : (n : ℕ) (ahead t : List (List Cell)) → nat_le n (length ahead) ≡ true → nat_le n (length (ahead ++ t))
    ≡ true
more_ahead n ahead t h =
    let reached : n ≤ length (ahead ++ t) = grind (arith, nat_tests, length-append ahead t) in
    grind (arith, nat_tests)

some_ahead : (ahead t : List (List Cell)) → nat_lt 0 (length ahead) ≡ true → nat_lt 0 (length (ahead ++ t)) ≡ true
some_ahead ahead t h =
    let reached : 0 < length (ahead ++ t) = grind (arith, nat_tests, length-append ahead t) in
    grind (arith, nat_tests)

pub quaver_enough_stays : (ex : Exercise) (voices : ℕ) → EnoughStays (quaver_enough ex voices)
quaver_enough_stays ex voices i behind now ahead t h =
    or_each (nat_lt 0 (length ahead)) (is_whole ex i ahead) (nat_lt 0 (length (ahead ++ t)))
    (is_whole ex i (ahead ++ t))
    (some_ahead ahead t) (whole_stays ex i ahead t) h

pub quaver_settles_at_end : (ex : Exercise) (voices : ℕ) → SettlesAtEnd ex (settled_by (quaver_enough ex voices))
quaver_settles_at_end ex voices =
    ends_when_whole ex (quaver_enough ex voices)
    (λ i behind now ahead whole. or_right (nat_lt 0 (length ahead)) (is_whole ex i ahead) whole)

-- ---- Q16

abbrev slots : List ℕ
slots = 0 ∷ 1 ∷ 2 ∷ 3 ∷ 4 ∷ 5 ∷ 6 ∷ 7 ∷ []

-- a whole bar isn't changed by the columns after it
bar_same : (v : ℕ) (behind : List (List Cell)) (now : List Cell) (ahead t : List (List Cell)) → 7 ≤ length ahead
    → repeats_bar v behind now (ahead ++ t) ≡ repeats_bar v behind now ahead
bar_same v behind now ahead t h =
    let whole : nat_le 7 (length ahead) ≡ true = grind (arith, nat_tests) in
    let longer : nat_le 7 (length (ahead ++ t)) ≡ true = more_ahead 7 ahead t whole in
    ap (λ b. b && list_all (repeats_slot v behind now (ahead ++ t)) slots) longer
    ∙ each
    ∙ sym (ap (λ b. b && list_all (repeats_slot v behind now ahead) slots) whole)
  where
    one : (slot : ℕ) → slot ≤ 7 → repeats_slot v behind now (ahead ++ t) slot ≡ repeats_slot v behind now ahead slot
    one slot k =
        ap (λ col. same_cell (cell_in (slice_index_or behind (7 - slot) []) v) (cell_in col v))
        (get_or-append (now ∷ ahead) t [] slot (omega (arith, h, k)))

    each : list_all (repeats_slot v behind now (ahead ++ t)) slots ≡ list_all (repeats_slot v behind now ahead) slots
    each = rw (
      one 0 (omega arith),
      one 1 (omega arith),
      one 2 (omega arith),
      one 3 (omega arith),
      one 4 (omega arith),
      one 5 (omega arith),
      one 6 (omega arith),
      one 7 (omega arith),
    ) refl

-- two tests that agree for each voice pass for as many free ones
count_free-same : (ex : Exercise) (f g : ℕ → Bool) → ((v : ℕ) → f v ≡ g v) → count_free ex f ≡ count_free ex g
count_free-same ex f g same =
    sum_by-same (λ v. cond (is_free ex v && f v) 1 0) (λ v. cond (is_free ex v && g v) 1 0) (0 ∷ 1 ∷ 2 ∷ 3 ∷ [])
    (λ v. ap (λ b. cond (is_free ex v && b) 1 0) (same v))

-- it costs nothing but at the beginning of a bar from the second on
pub pattern_needs : (ex : Exercise) (i : ℕ) (behind : List (List Cell)) (now : List Cell) (ahead : List (List Cell))
    → (begins_bar i && nat_le 8 i) ≡ false → pattern_toll ex i behind now ahead ≡ 0
unfolding pattern_toll
pattern_needs ex i behind now ahead e =
    count_free-none ex (λ v. nat_lt v ex.voices && is_pattern v ex i behind now ahead)
    (λ v. and_right (nat_lt v ex.voices) (is_pattern v ex i behind now ahead)
    (ap (λ b. b && nat_le 2 (species_in ex v) && repeats_bar v behind now ahead) e))

pattern_undisturbed : (ex : Exercise) → IsUndisturbed (pattern_toll ex) (pattern_enough ex)
unfolding pattern_toll
pattern_undisturbed ex i behind now ahead t h =
    by_either (not (begins_bar i)) (nat_le 7 (length ahead)) h
    (λ k.
    let none : (begins_bar i && nat_le 8 i) ≡ false = ap (λ b. b && nat_le 8 i) (not-true (begins_bar i) k) in
    pattern_needs ex i behind now (ahead ++ t) none ∙ sym (pattern_needs ex i behind now ahead none))
    (λ k.
    let whole : 7 ≤ length ahead = grind (arith, nat_tests, k) in
    count_free-same ex (λ v. nat_lt v ex.voices && is_pattern v ex i behind now (ahead ++ t))
    (λ v. nat_lt v ex.voices && is_pattern v ex i behind now ahead)
    (λ v. ap (λ b. nat_lt v ex.voices && (begins_bar i && nat_le 8 i && nat_le 2 (species_in ex v) && b))
    (bar_same v behind now ahead t whole)))

pub pattern_is_local : (ex : Exercise) → IsLocal ex (reading_of (pattern_toll ex)) (settled_by (pattern_enough ex))
pattern_is_local ex = local_from_row ex (pattern_toll ex) (pattern_enough ex) (pattern_undisturbed ex)

pub pattern_enough_stays : (ex : Exercise) → EnoughStays (pattern_enough ex)
pattern_enough_stays ex i behind now ahead t h =
    or_each (not (begins_bar i)) (nat_le 7 (length ahead)) (not (begins_bar i)) (nat_le 7 (length (ahead ++ t)))
    (λ e. e) (more_ahead 7 ahead t) h

pub pattern_settles_at_end : (ex : Exercise) → SettlesAtEnd ex (settled_by (pattern_enough ex))
pattern_settles_at_end ex s i whole here =
    and_from (nat_lt i (length s)) (reading_of (pattern_enough ex) s i) (test_from_below i (length s) here)
    (at (begins_bar i) refl)
  where
    at : (b : Bool) → begins_bar i ≡ b → (not b || nat_le 7 (length (drop (i + 1) s))) ≡ true
    at false e = refl
    at true e =
        let slot : i % 8 ≡ 0 = eqb-true (slot_of i) 0 e in
        let seven : 7 ≤ length (drop (i + 1) s) = omega (arith, length-drop (i + 1) s, whole, here, slot) in
        grind (arith, nat_tests)
