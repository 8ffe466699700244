-- In a lawful setting the species voice leaves no clash within a bar badly, and reaches none badly
-- (`left_well`, `reached_well`).
use Rattle.std.specs.Prelude.{◌≡◌, ℕ, zero, suc, ◌+◌, ◌-◌, ◌<◌, ◌≤◌, ◌&&◌, ◌||◌, Bool, true, false, not, List, [], ◌∷◌, Option, Some, None, is_some, drop, length, slice_index_or, if◌then◌else◌, refl}
use Rattle.std.proofs.Common.{ap, sym, ◌∙◌, subst, inl, inr, arith, add-one}
use Rattle.std.proofs.lemmas.Bool.{and_parts, cases_eq}
use Rattle.std.proofs.lemmas.Bool.Decides.{nat_tests}
use Rattle.std.proofs.lemmas.List.{get_or-drop, take_all}
use Rattle.fux_pitch.specs.declared.pitch.Pitch.{Pitch}
use Rattle.fux_pitch.specs.Size.{interval_between}
use Rattle.fux_grid.specs.declared.cell.Cell.{Cell}
use Rattle.fux_grid.specs.declared.cell.Cell.TheVariants.{Rest, Hold, Start}
use Rattle.fux_grid.specs.declared.exercise.Exercise.{Exercise}
use Rattle.fux_grid.specs.Cells.{cell_in, first_of, onsets_from, pitch_of}
use Rattle.fux_grid.specs.Columns.{Columns, cell_at, earlier, line, newest_column}
use Rattle.fux_grid.specs.Exercises.{is_mixed, species_in}
use Rattle.fux_grid.proofs.Histories.{earlier-more, earlier-none}
use Rattle.rule_law.specs.After.{next_onset, onset_pitch, second_next_onset}
use Rattle.rule_law.specs.Bars.{begins_bar}
use Rattle.rule_law.specs.Degrees.{lies_above}
use Rattle.rule_law.specs.Places.{reading_of}
use Rattle.rule_law.specs.Terms.{clash, falls, holds_of, interval_of_pitches, is_clean, is_step, previous_pitch, same_way, starts}
use Rattle.rule_law.specs.Voices.{is_free}
use Rattle.rule_law.specs.Within.{notes_within}
use Rattle.rule_law.proofs.AroundLemmas.{length-earlier}
use Rattle.rule_law.proofs.WithinLemmas.{notes-no_start, notes-start}
use Rattle.dissonance_rules.specs.Clashes.{passing_rule}
use Rattle.dissonance_rules.specs.Passing.{are_same, falls_by_step, has_ornaments, is_good, is_good_in, is_neighbor, is_passing, next_is_clean, starts_clean}
use Rattle.fux_judge.specs.Lawful.{IsLawful}
use Rattle.open_ends.specs.Asked.{is_asked}
use Rattle.open_ends.specs.Passing.{begins_in_clash, is_left_badly, is_reached_badly, is_read, may_be_good, passing_in}
use Rattle.open_ends.proofs.Sounding.{previous-no_start, previous-start, sounds_on_in}
use Rattle.open_ends.proofs.Unbroken.{clashes_well, passing_kept}
use Rattle.open_ends.specs.Parts.{HasVoices}

-- ---- good notes

-- a good note may be one as far as the next note tells
pub good-begins : (species : ℕ) (previous here next : Option Pitch) (clean : Bool) (after : Option Pitch)
    → is_good species previous here next clean after ≡ true → may_be_good species previous here next clean ≡ true
good-begins species previous here next clean after =
    at (is_passing previous here next) (has_ornaments species) (is_neighbor previous here next)
    (falls_by_step previous here) (lies_above 2 here next) clean (lies_above 1 after next)
  where
    at : (a o b x y z w : Bool) → (a || (o && (b || (x && y && z && w)))) ≡ true
        → (a || (o && (b || (x && y && z)))) ≡ true
    at true o b x y z w h = refl
    at false true true x y z w h = refl
    at false true false true true true w h = refl
    at false true false true true false w h = cc
    at false true false true false z w h = cc
    at false true false false y z w h = cc
    at false false b x y z w h = cc

-- and a step leads to it
pub good-step : (species : ℕ) (previous here next : Option Pitch) (clean : Bool) (after : Option Pitch)
    → is_good species previous here next clean after ≡ true
    → holds_of is_step (interval_of_pitches previous here) ≡ true
good-step species None here next clean after h = none (has_ornaments species) h
  where
    none : (o : Bool) → (false || (o && (false || false))) ≡ true → false ≡ true
    none true h = h
    none false h = h
good-step species (Some p) None next clean after h = none (has_ornaments species) h
  where
    none : (o : Bool) → (false || (o && (false || false))) ≡ true → false ≡ true
    none true h = h
    none false h = h
good-step species (Some p) (Some q) None clean after h =
    at (is_step (interval_between p q)) (has_ornaments species) (falls (interval_between p q))
    (lies_above 2 (Some q) None) clean (lies_above 1 after None) h
  where
    at : (x o f l c a : Bool) → (false || (o && ((false && false) || ((x && f) && l && c && a)))) ≡ true → x ≡ true
    at true o f l c a h = refl
    at false true f l c a h = cc
    at false false f l c a h = cc
good-step species (Some p) (Some q) (Some r) clean after h =
    at (is_step (interval_between p q)) (is_step (interval_between q r))
    (same_way (interval_between p q) (interval_between q r)) (has_ornaments species) (are_same (Some p) (Some r))
    (falls (interval_between p q)) (lies_above 2 (Some q) (Some r)) clean (lies_above 1 after (Some r)) h
  where
    at : (x y z o w f l c a : Bool)
        → ((x && y && z) || (o && (((x && y) && w) || ((x && f) && l && c && a)))) ≡ true → x ≡ true
    at true y z o w f l c a h = refl
    at false y z true w f l c a h = cc
    at false y z false w f l c a h = cc

-- ---- S15 at a place

parts_hold : (m b c d k : Bool) → (m && b && (c && d) && k) ≡ false → m ≡ true → b ≡ true → c ≡ true → (d && k) ≡ false
parts_hold true true true d k h e f g = h
parts_hold true true false d k h e f g = cc
parts_hold true false c d k h e f g = cc
parts_hold false b c d k h e f g = cc

module _ (ex : Exercise) (valid : HasVoices ex) (s : Columns) (lawful : IsLawful ex s)
    (read : is_read ex ≡ true) where
  parts_read : (not (is_mixed ex) ≡ true) × (is_asked ex passing_rule ≡ true)
  parts_read = and_parts (not (is_mixed ex)) (is_asked ex passing_rule) read

  abbrev v : ℕ
  v = ex.species_voice

  abbrev now : ℕ → List Cell
  now i = slice_index_or s i []

  abbrev previous : ℕ → Option Pitch
  previous i = previous_pitch (line v (earlier s i))

  abbrev before : ℕ → Option Pitch
  before i = pitch_of (cell_in (newest_column (earlier s i)) v)

  abbrev good : ℕ → Bool
  good i = reading_of (is_good_in ex) s i v

  -- the move from a pitch to what the voice sounds in a column is a step
  abbrev is_step_to : ℕ → Option Pitch → Bool
  is_step_to i p = holds_of is_step (interval_of_pitches p (pitch_of (cell_in (now i) v)))

  free : is_free ex v ≡ true
  free = grind (arith, nat_tests, valid.differ)

  sounding : (i : ℕ) → i < length s → previous i ≡ before i
  sounding i here = sounds_on_in ex valid s lawful v i free here

  -- what begins in a clash is good
  good_there : (i : ℕ) → i < length s → begins_in_clash i (now i) v ≡ true → good i ≡ true
  good_there i here h =
      let parts = and_parts (not (begins_bar i) && starts (cell_in (now i) v)) (not (is_clean (now i) v)) h in
      let first = and_parts (not (begins_bar i)) (starts (cell_in (now i) v)) parts.0 in
      let width = (lawful.setting.prefix.menus i here).full in
      clashes_well (now i) v (good i)
      (λ w there differ.
      parts_hold (not (is_mixed ex)) (not (begins_bar i)) (starts (cell_in (now i) v)) (clash (now i) v w) (not (good i))
      (passing_kept ex valid.most_voices s lawful i here parts_read.1 v w valid.species_there (omega (arith, there, width)) differ
      free)
      parts_read.0 first.0 first.1)
      parts.1

  -- so a step leads to it
  pub reached_well : (i : ℕ) → i < length s
      → is_reached_badly i (newest_column (earlier s i)) (now i) v ≡ false
  reached_well i here = at (begins_in_clash i (now i) v) refl
    where
      at : (b : Bool) → begins_in_clash i (now i) v ≡ b → (b && not (is_step_to i (before i))) ≡ false
      at false e = refl
      at true e =
          ap (λ b. not b) (ap (is_step_to i) (sym (sounding i here))
          ∙ good-step (species_in ex v) (previous i) (pitch_of (cell_in (now i) v))
          (onset_pitch (next_onset i v (drop (i + 1) s))) (next_is_clean i (drop (i + 1) s) v)
          (onset_pitch (second_next_onset i v (drop (i + 1) s))) (good_there i here e))

  -- ---- what waits

  -- a note that began within a bar in a clash, after this pitch, and is the newest one of the first
  -- j columns
  record IsWaiting (j : ℕ) (pitch : Pitch) : Type 0 where
    pub start : ℕ
    pub before_end : start < j
    pub clashed : begins_in_clash start (now start) v ≡ true
    pub from : before start ≡ Some pitch
    pub held : (k : ℕ) → start < k → k < j → starts (cell_at s v k) ≡ false
    pub latest : previous j ≡ pitch_of (cell_at s v start)

  grown : (j : ℕ) → j < length s → earlier s (suc j) ≡ now j ∷ earlier s j
  grown j here = ap (earlier s) (sym (add-one j)) ∙ earlier-more s j here

  -- so it is with one column more
  waits_on : (j : ℕ) → j < length s → (pitch : Pitch)
      → (passing_in (earlier s j) v ≡ Some pitch → IsWaiting j pitch)
      → passing_in (earlier s (suc j)) v ≡ Some pitch → IsWaiting (suc j) pitch
  waits_on j there pitch before_it e =
      at (starts (cell_at s v j)) (begins_in_clash j (now j) v) refl refl
      (sym (ap (λ n. if starts (cell_at s v j)
      then (if begins_in_clash n (now j) v then before j else None)
      else passing_in (earlier s j) v) (length-earlier s j (omega (arith, there))))
      ∙ sym (ap (λ cols. passing_in cols v) (grown j there)) ∙ e)
    where
      newest : previous (suc j) ≡ previous_pitch (cell_at s v j ∷ line v (earlier s j))
      newest = ap (λ cols. previous_pitch (line v cols)) (grown j there)

      at : (b c : Bool) → starts (cell_at s v j) ≡ b → begins_in_clash j (now j) v ≡ c
          → (if b then (if c then before j else None) else passing_in (earlier s j) v) ≡ Some pitch
          → IsWaiting (suc j) pitch
      at true true f g h = record {
        start = j;
        before_end = omega arith;
        clashed = g;
        from = h;
        held = λ k after end. absurd (omega (arith, after, end));
        latest = newest ∙ previous-start (cell_at s v j) (line v (earlier s j)) f;
      }
      at true false f g h = cc
      at false c f g h =
          let it : IsWaiting j pitch = before_it h in
          record {
            start = it.start;
            before_end = omega (arith, it.before_end);
            clashed = it.clashed;
            from = it.from;
            held = λ k after end. elim (cases_eq k j) [
              | inl same ↦ subst (λ (n : ℕ). starts (cell_at s v n) ≡ false) (sym same) f
              | inr other ↦ it.held k after (omega (arith, end, other))
            ];
            latest = newest ∙ previous-no_start (cell_at s v j) (line v (earlier s j)) f ∙ it.latest;
          }

  waits : (j : ℕ) → j ≤ length s → (pitch : Pitch) → passing_in (earlier s j) v ≡ Some pitch → IsWaiting j pitch
  waits zero within pitch e = absurd (none (sym (ap (λ cols. passing_in cols v) (earlier-none s)) ∙ e))
    where
      none : None ≡ Some pitch → ⊥
      none h = cc
  waits (suc j) within pitch e =
      waits_on j (omega (arith, within)) pitch (waits j (omega (arith, within)) pitch) e

  -- ---- the next note

  -- the first note from column n on starts at column j
  first_at : (m n j : ℕ) (r : Pitch) → n + m ≡ j → j < length s
      → ((k : ℕ) → n ≤ k → k < j → starts (cell_at s v k) ≡ false) → cell_at s v j ≡ Start r
      → first_of (notes_within s (length s) v n) ≡ Some (record { start = j; pitch = r })
  first_at zero n j r e here held f =
      let same : n ≡ j = omega (arith, e) in
      ap (λ k. first_of (notes_within s (length s) v k)) same
      ∙ ap first_of (notes-start s (length s) v (omega arith) j (cell_at s v j) r here refl f)
  first_at (suc m) n j r e here held f =
      ap first_of (notes-no_start s (length s) v (omega arith) n (cell_at s v n) (omega (arith, e, here)) refl
      (no_start (cell_at s v n) (held n (omega arith) (omega (arith, e)))))
      ∙ first_at m (n + 1) j r (omega (arith, e)) here (λ k from to. held k (omega (arith, from)) to) f
    where
      no_start : (c : Cell) → starts c ≡ false → (p : Pitch) → c ≡ Start p → ⊥
      no_start Rest h p e = cc
      no_start (Hold q) h p e = cc
      no_start (Start q) h p e = cc

  module _ (i j : ℕ) (r : Pitch) (order : i < j) (here : j < length s)
      (held : (k : ℕ) → i < k → k < j → starts (cell_at s v k) ≡ false) (start : cell_at s v j ≡ Start r) where
    next_at : next_onset i v (drop (i + 1) s) ≡ Some (record { start = j; pitch = r })
    next_at =
        ap (λ cols. first_of (onsets_from (i + 1) (line v (drop (i + 1) cols)))) (sym (take_all (length s) s (omega arith)))
        ∙ first_at (j - (i + 1)) (i + 1) j r (omega (arith, order)) here
        (λ k from to. held k (omega (arith, from)) to) start

    clean_at : next_is_clean i (drop (i + 1) s) v ≡ is_clean (now j) v
    clean_at =
        let place : i + 1 + (j - (i + 1)) ≡ j = omega (arith, order) in
        ap (λ onset. starts_clean i (drop (i + 1) s) v onset) next_at
        ∙ ap (λ col. is_clean col v) (get_or-drop (i + 1) s (j - (i + 1)) [] ∙ ap now place)

  pub left_well : (j : ℕ) → j < length s
      → is_left_badly (species_in ex v) (passing_in (earlier s j) v) (newest_column (earlier s j)) (now j) v ≡ false
  left_well j here = at (passing_in (earlier s j) v) (cell_in (now j) v) refl refl
    where
      may_be : (pitch r : Pitch) → IsWaiting j pitch → cell_at s v j ≡ Start r
          → may_be_good (species_in ex v) (Some pitch) (before j) (Some r) (is_clean (now j) v) ≡ true
      may_be pitch r it e =
          let i : ℕ = it.start in
          let first : i < length s = omega (arith, it.before_end, here) in
          let from : previous i ≡ Some pitch = sounding i first ∙ it.from in
          let held : pitch_of (cell_at s v i) ≡ before j = sym it.latest ∙ sounding j here in
          let next : onset_pitch (next_onset i v (drop (i + 1) s)) ≡ Some r =
          ap onset_pitch (next_at i j r it.before_end here it.held e) in
          let clean : next_is_clean i (drop (i + 1) s) v ≡ is_clean (now j) v =
          clean_at i j r it.before_end here it.held e in
          let species : ℕ = species_in ex v in
          sym (ap (λ p. may_be_good species p (pitch_of (cell_at s v i)) (onset_pitch (next_onset i v (drop (i + 1) s)))
          (next_is_clean i (drop (i + 1) s) v)) from
          ∙ ap (λ p. may_be_good species (Some pitch) p (onset_pitch (next_onset i v (drop (i + 1) s)))
          (next_is_clean i (drop (i + 1) s) v)) held
          ∙ ap (λ p. may_be_good species (Some pitch) (before j) p (next_is_clean i (drop (i + 1) s) v)) next
          ∙ ap (may_be_good species (Some pitch) (before j) (Some r)) clean)
          ∙ good-begins species (previous i) (pitch_of (cell_at s v i)) (onset_pitch (next_onset i v (drop (i + 1) s)))
          (next_is_clean i (drop (i + 1) s) v) (onset_pitch (second_next_onset i v (drop (i + 1) s)))
          (good_there i first it.clashed)

      at : (w : Option Pitch) (c : Cell) → passing_in (earlier s j) v ≡ w → cell_in (now j) v ≡ c
          → (is_some w && starts c && not (may_be_good (species_in ex v) w (before j) (pitch_of c) (is_clean (now j) v)))
          ≡ false
      at None c e f = refl
      at (Some pitch) Rest e f = refl
      at (Some pitch) (Hold p) e f = refl
      at (Some pitch) (Start r) e f = ap (λ b. not b) (may_be pitch r (waits j (omega (arith, here)) pitch e) f)
