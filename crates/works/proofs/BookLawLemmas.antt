-- A canon's rules are the book's (`canon_rules_are_the_book`): each is broken at the beginning of a
-- bar exactly where the book's is, and the book's is broken nowhere within a bar.
use Rattle.std.proofs.Common.{◌≡◌, ℕ, ◌+◌, ◌*◌, ◌<◌, Bool, true, false, List, [], ◌∷◌, Option, None, Some, length, map, take, drop, reverse, refl, ap, ap₂, sym, ◌∙◌, arith}
use Rattle.std.specs.Prelude.{◌==◌, ◌&&◌, ◌||◌, nat_le, nat_lt, slice_index_or}
use Rattle.std.specs.List.{list_any, range_with_len}
use Rattle.std.proofs.lemmas.Bool.{eq-eqb, ne_eqb}
use Rattle.std.proofs.lemmas.List.{length-reverse, length-take-le}
use Rattle.std.proofs.lemmas.List.Folds.{list_any-append}
use Rattle.fux_pitch.specs.declared.interval.Interval.{Interval}
use Rattle.fux_pitch.specs.declared.pitch.Pitch.{Pitch}
use Rattle.fux_grid.specs.declared.cell.Cell.{Cell}
use Rattle.fux_grid.specs.declared.cell.Cell.TheVariants.{Rest, Hold, Start}
use Rattle.fux_grid.specs.declared.exercise.Exercise.{Exercise}
use Rattle.fux_grid.specs.Cells.{cell_in, pitch_of}
use Rattle.fux_grid.specs.Columns.{earlier, line, newest_column}
use Rattle.fux_grid.specs.Exercises.{bar_of, slot_of}
use Rattle.fux_judge.specs.Rules.{breaks, is_broken, rule_at}
use Rattle.rule_law.specs.Bars.{begins_bar, begins_inner_bar}
use Rattle.rule_law.specs.Forms.{all_sets}
use Rattle.rule_law.specs.Growth.{list_any-same}
use Rattle.rule_law.specs.Nearby.{pitch_at, previous_pitches}
use Rattle.rule_law.specs.Pairs.{both_move, go_same_way, sound_perfect, sound_same_key}
use Rattle.rule_law.specs.Terms.{clash, differs, equal_perfects, interval_in, interval_of_pitches, move_from, starts}
use Rattle.rule_law.specs.Voices.{holds_of_pair, holds_of_voice, is_free, on_free_voice, on_pair, on_voice, pair_of, voice_of}
use Rattle.melody_rules.specs.Rows.{before_last, holds_of_both, last_of, leaves_sharp, moves_unmelodically, on_moves, pitches, window_rule}
use Rattle.motion_rules.specs.Rows.{are_outer, cross, move_in_parallel, outer_move_into_perfect}
use Rattle.dissonance_rules.specs.Rows.{clash_at_start, meet_in_unison}
use Rattle.rhythm_cadence.specs.Rows.{begins_last_bar, ends_badly, lacks_final}
use Rattle.canon_space.specs.declared.canon.Canon.{Canon}
use Rattle.canon_space.specs.Rules.{breaks_pair, breaks_voice, columns_of, ends_apart, ends_off_final, goes_on, is_inner, is_last, pair_rules, voice_rules}
use Rattle.works.specs.BookRules.{CanonRulesAreTheBook, as_exercise, breaks_in_bar}
use Rattle.works.proofs.BarColumns.{column-of_bar, earlier-bar, held_columns}
use Rattle.works.proofs.HeldColumns.{cell-held, column_held, pitches-held, previous-held, sounding-held, starts-held}

-- ---- sets of voices, and slots

or_none : (b : Bool) → (b || false) ≡ b
or_none true = refl
or_none false = refl

pub and_none : (b : Bool) → (b && false) ≡ false
and_none true = refl
and_none false = refl

-- no voice of a set passes where none does
none_free : (ex : Exercise) (test : ℕ → Bool) (voices : ℕ) → ((v : ℕ) → test v ≡ false) → on_free_voice ex test voices ≡ false
none_free ex test voices none = by (voice_of voices)
  where
    by : (o : Option ℕ) → holds_of_voice ex (λ v. is_free ex v && test v) o ≡ false
    by None = refl
    by (Some v) =
        ap (λ b. nat_lt v ex.voices && (is_free ex v && b)) (none v)
        ∙ ap (λ b. nat_lt v ex.voices && b) (and_none (is_free ex v)) ∙ and_none (nat_lt v ex.voices)

none_voice : (ex : Exercise) (test : ℕ → Bool) (voices : ℕ) → ((v : ℕ) → test v ≡ false) → on_voice ex test voices ≡ false
none_voice ex test voices none = by (voice_of voices)
  where
    by : (o : Option ℕ) → holds_of_voice ex test o ≡ false
    by None = refl
    by (Some v) = ap (λ b. nat_lt v ex.voices && b) (none v) ∙ and_none (nat_lt v ex.voices)

none_pair : (ex : Exercise) (test : ℕ → ℕ → Bool) (voices : ℕ) → ((v w : ℕ) → test v w ≡ false)
    → on_pair ex test voices ≡ false
none_pair ex test voices none = by (pair_of voices)
  where
    by : (o : Option (ℕ × ℕ)) → holds_of_pair ex test o ≡ false
    by None = refl
    by (Some pair) = ap (λ b. nat_lt pair.1 ex.voices && b) (none pair.0 pair.1) ∙ and_none (nat_lt pair.1 ex.voices)

-- of two voices that are free, some set passes where one of them does; of the two, where both do
-- together
free_sets : (canon : Canon) (test : ℕ → Bool) → list_any (on_free_voice (as_exercise canon) test) all_sets ≡ (test 0 || test 1)
unfolding all_sets
free_sets canon test = ap (λ b. test 0 || b) (or_none (test 1))

voice_sets : (canon : Canon) (test : ℕ → Bool) → list_any (on_voice (as_exercise canon) test) all_sets ≡ (test 0 || test 1)
unfolding all_sets
voice_sets canon test = ap (λ b. test 0 || b) (or_none (test 1))

both_sets : (canon : Canon) (test : ℕ → ℕ → Bool) → list_any (on_pair (as_exercise canon) test) all_sets ≡ test 0 1
unfolding all_sets
both_sets canon test = or_none (test 0 1)

-- of eight slots the first alone counts, where the others don't
first_slot : (f : ℕ → Bool) → ((slot : ℕ) → 0 < slot → slot < 8 → f slot ≡ false)
    → list_any f (range_with_len 0 8) ≡ f 0
first_slot f others =
    rw (
      others 1 (omega arith) (omega arith),
      others 2 (omega arith) (omega arith),
      others 3 (omega arith) (omega arith),
      others 4 (omega arith) (omega arith),
      others 5 (omega arith) (omega arith),
      others 6 (omega arith) (omega arith),
      others 7 (omega arith) (omega arith),
    ) (or_none (f 0))

-- ---- nothing is broken where nothing starts

pub no_move : (c : Cell) (previous : Option Pitch) → move_from previous (goes_on c) ≡ None
no_move Rest previous = refl
no_move (Hold p) previous = refl
no_move (Start p) previous = refl

no_second : (test : Interval → Interval → Bool) (first : Option Interval) → holds_of_both test first None ≡ false
no_second test None = refl
no_second test (Some i) = refl

pub moves_none : (test : Interval → Interval → Bool) (before last : Option Pitch) (c : Cell)
    → on_moves test before last (goes_on c) ≡ false
moves_none test before last Rest = no_second test (interval_of_pitches before last)
moves_none test before last (Hold p) = no_second test (interval_of_pitches before last)
moves_none test before last (Start p) = no_second test (interval_of_pitches before last)

pub and_left : (a b : Bool) → a ≡ false → (a && b) ≡ false
and_left a b none = ap (λ x. x && b) none

quiet_six : (ps : List Pitch) (c : Cell) → window_rule 6 ps (goes_on c) ≡ false
quiet_six ps c = and_left _ _ (moves_none _ (before_last ps) (last_of ps) c)

quiet_seven : (ps : List Pitch) (c : Cell) → window_rule 7 ps (goes_on c) ≡ false
quiet_seven ps c = moves_none _ (before_last ps) (last_of ps) c

quiet_eight : (ps : List Pitch) (c : Cell) → window_rule 8 ps (goes_on c) ≡ false
quiet_eight ps c = and_left _ _ (moves_none _ (before_last ps) (last_of ps) c)

quiet_nine : (ps : List Pitch) (c : Cell) → window_rule 9 ps (goes_on c) ≡ false
quiet_nine ps Rest = refl
quiet_nine ps (Hold p) = refl
quiet_nine ps (Start p) = refl

quiet_four : (previous : Option Pitch) (c : Cell) → moves_unmelodically previous (goes_on c) ≡ false
quiet_four previous Rest = refl
quiet_four previous (Hold p) = refl
quiet_four previous (Start p) = refl

quiet_sharp : (previous : Option Pitch) (c : Cell) → leaves_sharp previous (goes_on c) ≡ false
quiet_sharp previous Rest = refl
quiet_sharp previous (Hold p) = refl
quiet_sharp previous (Start p) = refl

-- ---- the rows of the book

module _ (ex : Exercise) (voices i : ℕ) (behind : List (List Cell)) (now : List Cell) (ahead : List (List Cell)) where
  row_four : breaks 4 ex voices i behind now ahead
      ≡ on_free_voice ex (λ v. moves_unmelodically (pitch_at (previous_pitches behind) v) (cell_in now v)) voices
  unfolding rule_at
  row_four = refl

  row_six : breaks 6 ex voices i behind now ahead
      ≡ on_free_voice ex (λ v. window_rule 6 (pitches (line v behind)) (cell_in now v)) voices
  unfolding rule_at
  row_six = refl

  row_seven : breaks 7 ex voices i behind now ahead
      ≡ on_free_voice ex (λ v. window_rule 7 (pitches (line v behind)) (cell_in now v)) voices
  unfolding rule_at
  row_seven = refl

  row_eight : breaks 8 ex voices i behind now ahead
      ≡ on_free_voice ex (λ v. window_rule 8 (pitches (line v behind)) (cell_in now v)) voices
  unfolding rule_at
  row_eight = refl

  row_nine : breaks 9 ex voices i behind now ahead
      ≡ on_free_voice ex (λ v. window_rule 9 (pitches (line v behind)) (cell_in now v)) voices
  unfolding rule_at
  row_nine = refl

  row_sharp : breaks 26 ex voices i behind now ahead
      ≡ on_free_voice ex (λ v. leaves_sharp (pitch_at (previous_pitches behind) v) (cell_in now v)) voices
  unfolding rule_at
  row_sharp = refl

  row_cross : breaks 10 ex voices i behind now ahead ≡ on_pair ex (cross now) voices
  unfolding rule_at
  row_cross = refl

  row_unison : breaks 11 ex voices i behind now ahead ≡ on_pair ex (meet_in_unison ex i now) voices
  unfolding rule_at
  row_unison = refl

  row_end : breaks 13 ex voices i behind now ahead
      ≡ on_pair ex (λ v w. (v == 0) && ends_badly ex i now w) voices
  unfolding rule_at
  row_end = refl

  row_clash : breaks 14 ex voices i behind now ahead ≡ on_pair ex (clash_at_start i now) voices
  unfolding rule_at
  row_clash = refl

  row_parallel : breaks 16 ex voices i behind now ahead ≡ on_pair ex (move_in_parallel (newest_column behind) now) voices
  unfolding rule_at
  row_parallel = refl

  row_perfect : breaks 17 ex voices i behind now ahead
      ≡ on_pair ex (outer_move_into_perfect ex (newest_column behind) now) voices
  unfolding rule_at
  row_perfect = refl

  row_final : breaks 24 ex voices i behind now ahead ≡ on_voice ex (λ v. (v == 0) && lacks_final ex i now) voices
  unfolding rule_at
  row_final = refl

-- ---- the rules at a bar

or_both : {a b c d : Bool} → a ≡ c → b ≡ d → (a || b) ≡ (c || d)
or_both e f = ap₂ (λ x y. x || y) e f

or_four : (a b c d : Bool) → ((a || b) || (c || d)) ≡ ((a || c) || (b || d))
or_four true b c d = refl
or_four false true true d = refl
or_four false true false d = refl
or_four false false true d = refl
or_four false false false d = refl

or_split : (f g : ℕ → Bool) (xs : List ℕ) → list_any (λ x. f x || g x) xs ≡ (list_any f xs || list_any g xs)
or_split f g [] = refl
or_split f g (x ∷ xs) =
    ap (λ b. (f x || g x) || b) (or_split f g xs) ∙ or_four (f x) (g x) (list_any f xs) (list_any g xs)

pub within_bar : (n slot : ℕ) → 0 < slot → slot < 8 → begins_bar (8 * n + slot) ≡ false
within_bar n slot late low = ne_eqb (slot_of (8 * n + slot)) 0 (λ e. omega (arith, e, late, low))

pub at_bar : (n : ℕ) → begins_bar (8 * n) ≡ true
at_bar n = eq-eqb (slot_of (8 * n)) 0 (omega arith)

-- no voice moves where nothing starts
pub still : (before now : List Cell) (v w : ℕ) → both_move before (map goes_on now) v w ≡ false
still before now v w = and_left _ _ (and_left _ _ (starts-held now v))

module _ (canon : Canon) (bars : List (List Cell)) (n : ℕ) (within : n < length bars) where
  abbrev behind : List (List Cell)
  behind = reverse (take n bars)

  abbrev now : List Cell
  now = slice_index_or bars n []

  abbrev ex : Exercise
  ex = as_exercise canon

  abbrev columns : List (List Cell)
  columns = columns_of bars

  start : (rule voices : ℕ) → is_broken rule ex voices columns (8 * n + 0)
      ≡ breaks rule ex voices (8 * n) (held_columns behind) now (drop (8 * n + 1) columns)
  start rule voices =
      let at : 8 * n + 0 ≡ 8 * n = omega arith in
      let first : slice_index_or columns (8 * n) [] ≡ now = ap (λ i. slice_index_or columns i []) (sym at)
      ∙ column-of_bar bars n 0 within (omega arith) in
      ap (λ i. breaks rule ex voices i (earlier columns i) (slice_index_or columns i []) (drop (i + 1) columns)) at
      ∙ ap₂ (λ before col. breaks rule ex voices (8 * n) before col (drop (8 * n + 1) columns))
      (earlier-bar bars n (omega (arith, within))) first

  later : (rule voices slot : ℕ) → 0 < slot → slot < 8 → is_broken rule ex voices columns (8 * n + slot)
      ≡ breaks rule ex voices (8 * n + slot) (earlier columns (8 * n + slot)) (map goes_on now)
      (drop (8 * n + slot + 1) columns)
  later rule voices slot late low =
      ap
      (λ col. breaks rule ex voices (8 * n + slot) (earlier columns (8 * n + slot)) col (drop (8 * n + slot + 1) columns))
      (column-of_bar bars n slot within low ∙ column_held now slot late low)

  in_bar : (rule : ℕ) (test : ℕ → Bool)
      → ((voices : ℕ) (ahead : List (List Cell))
      → breaks rule ex voices (8 * n) (held_columns behind) now ahead ≡ test voices)
      → ((voices slot : ℕ) (before ahead : List (List Cell)) → 0 < slot → slot < 8
      → breaks rule ex voices (8 * n + slot) before (map goes_on now) ahead ≡ false)
      → list_any (breaks_in_bar canon bars n rule) all_sets ≡ list_any test all_sets
  in_bar rule test first quiet =
      list_any-same (breaks_in_bar canon bars n rule) test all_sets
      (λ voices. first_slot (λ slot. is_broken rule ex voices columns (8 * n + slot))
      (λ slot late low. later rule voices slot late low ∙ quiet voices slot _ _ late low)
      ∙ start rule voices ∙ first voices _)

  window : (rule : ℕ)
      → ((voices i : ℕ) (before : List (List Cell)) (col : List Cell) (ahead : List (List Cell))
      → breaks rule ex voices i before col ahead
      ≡ on_free_voice ex (λ v. window_rule rule (pitches (line v before)) (cell_in col v)) voices)
      → ((ps : List Pitch) (c : Cell) → window_rule rule ps (goes_on c) ≡ false)
      → list_any (breaks_in_bar canon bars n rule) all_sets
      ≡ (window_rule rule (pitches (line 0 behind)) (cell_in now 0)
      || window_rule rule (pitches (line 1 behind)) (cell_in now 1))
  window rule row quiet =
      in_bar rule (on_free_voice ex (λ v. window_rule rule (pitches (line v (held_columns behind))) (cell_in now v)))
      (λ voices ahead. row voices (8 * n) (held_columns behind) now ahead)
      (λ voices slot before ahead late low. row voices (8 * n + slot) before (map goes_on now) ahead
      ∙ none_free ex (λ v. window_rule rule (pitches (line v before)) (cell_in (map goes_on now) v)) voices
      (λ v. ap (window_rule rule (pitches (line v before))) (cell-held now v)
      ∙ quiet (pitches (line v before)) (cell_in now v)))
      ∙ free_sets canon (λ v. window_rule rule (pitches (line v (held_columns behind))) (cell_in now v))
      ∙ ap₂ (λ ps qs. window_rule rule ps (cell_in now 0) || window_rule rule qs (cell_in now 1))
      (pitches-held 0 behind) (pitches-held 1 behind)

  near : (rule : ℕ) (f : Option Pitch → Cell → Bool)
      → ((voices i : ℕ) (before : List (List Cell)) (col : List Cell) (ahead : List (List Cell))
      → breaks rule ex voices i before col ahead
      ≡ on_free_voice ex (λ v. f (pitch_at (previous_pitches before) v) (cell_in col v)) voices)
      → ((p : Option Pitch) (c : Cell) → f p (goes_on c) ≡ false)
      → list_any (breaks_in_bar canon bars n rule) all_sets
      ≡ (f (last_of (pitches (line 0 behind))) (cell_in now 0) || f (last_of (pitches (line 1 behind))) (cell_in now 1))
  near rule f row quiet =
      in_bar rule (on_free_voice ex (λ v. f (pitch_at (previous_pitches (held_columns behind)) v) (cell_in now v)))
      (λ voices ahead. row voices (8 * n) (held_columns behind) now ahead)
      (λ voices slot before ahead late low. row voices (8 * n + slot) before (map goes_on now) ahead
      ∙ none_free ex (λ v. f (pitch_at (previous_pitches before) v) (cell_in (map goes_on now) v)) voices
      (λ v. ap (f (pitch_at (previous_pitches before) v)) (cell-held now v)
      ∙ quiet (pitch_at (previous_pitches before) v) (cell_in now v)))
      ∙ free_sets canon (λ v. f (pitch_at (previous_pitches (held_columns behind)) v) (cell_in now v))
      ∙ ap₂ (λ p q. f p (cell_in now 0) || f q (cell_in now 1)) (previous-held 0 behind) (previous-held 1 behind)

  pair : (rule : ℕ) (test : ℕ → List (List Cell) → List Cell → ℕ → ℕ → Bool)
      → ((voices i : ℕ) (before : List (List Cell)) (col : List Cell) (ahead : List (List Cell))
      → breaks rule ex voices i before col ahead ≡ on_pair ex (test i before col) voices)
      → ((slot : ℕ) (before : List (List Cell)) (v w : ℕ) → 0 < slot → slot < 8
      → test (8 * n + slot) before (map goes_on now) v w ≡ false)
      → list_any (breaks_in_bar canon bars n rule) all_sets ≡ test (8 * n) (held_columns behind) now 0 1
  pair rule test row quiet =
      in_bar rule (on_pair ex (test (8 * n) (held_columns behind) now))
      (λ voices ahead. row voices (8 * n) (held_columns behind) now ahead)
      (λ voices slot before ahead late low. row voices (8 * n + slot) before (map goes_on now) ahead
      ∙ none_pair ex (test (8 * n + slot) before (map goes_on now)) voices (λ v w. quiet slot before v w late low))
      ∙ both_sets canon (test (8 * n) (held_columns behind) now)

  -- the bar's number
  pub numbered : bar_of (8 * n) ≡ length behind + 1
  numbered =
      let size : length behind ≡ n = length-reverse (take n bars) ∙ length-take-le n bars (omega (arith, within)) in
      omega (arith, size)

  pub is_inner_bar : begins_inner_bar ex (8 * n) ≡ is_inner canon behind
  is_inner_bar =
      ap₂ (λ b k. b && nat_le 2 k && nat_lt k canon.bars) (at_bar n) numbered

  is_last_bar : begins_last_bar ex (8 * n) ≡ is_last canon behind
  is_last_bar = ap₂ (λ b k. b && (k == canon.bars)) (at_bar n) numbered

  -- within a bar none begins
  pub no_inner_bar : (slot : ℕ) → 0 < slot → slot < 8 → begins_inner_bar ex (8 * n + slot) ≡ false
  no_inner_bar slot late low =
      ap (λ b. b && nat_le 2 (bar_of (8 * n + slot)) && nat_lt (bar_of (8 * n + slot)) canon.bars)
      (within_bar n slot late low)

  no_last_bar : (slot : ℕ) → 0 < slot → slot < 8 → begins_last_bar ex (8 * n + slot) ≡ false
  no_last_bar slot late low = and_left _ _ (within_bar n slot late low)

  -- ---- each rule of both voices

  law_cross : list_any (breaks_in_bar canon bars n 10) all_sets ≡ breaks_pair canon behind now 10
  law_cross =
      pair 10 (λ i before col. cross col) (row_cross ex)
      (λ slot before v w late low. and_left _ _
      (ap₂ (λ a b. a || b) (starts-held now v) (starts-held now w)))

  law_unison : list_any (breaks_in_bar canon bars n 11) all_sets ≡ breaks_pair canon behind now 11
  law_unison =
      pair 11 (λ i before col. meet_in_unison ex i col) (row_unison ex)
      (λ slot before v w late low. and_left _ _ (no_inner_bar slot late low))
      ∙ ap (λ b. b && sound_same_key now 0 1) is_inner_bar

  law_end : list_any (breaks_in_bar canon bars n 13) all_sets ≡ breaks_pair canon behind now 13
  law_end =
      pair 13 (λ i before col v w. (v == 0) && ends_badly ex i col w) (row_end ex)
      (λ slot before v w late low. ap (λ b. (v == 0) && b) (and_left _ _ (no_last_bar slot late low)) ∙ and_none (v == 0))
      ∙ ap (λ b. b && ends_apart now) is_last_bar

  law_clash : list_any (breaks_in_bar canon bars n 14) all_sets ≡ breaks_pair canon behind now 14
  law_clash =
      pair 14 (λ i before col. clash_at_start i col) (row_clash ex)
      (λ slot before v w late low. ap
      (λ b. b && starts (cell_in (map goes_on now) v) && starts (cell_in (map goes_on now) w) && clash (map goes_on now) v w)
      (within_bar n slot late low))
      ∙ ap (λ b. b && starts (cell_in now 0) && starts (cell_in now 1) && clash now 0 1) (at_bar n)

  law_parallel : list_any (breaks_in_bar canon bars n 16) all_sets ≡ breaks_pair canon behind now 16
  law_parallel =
      pair 16 (λ i before col. move_in_parallel (newest_column before) col) (row_parallel ex)
      (λ slot before v w late low. and_left _ _ (still (newest_column before) now v w))
      ∙ ap₂
      (λ p q. (starts (cell_in now 0) && differs p (pitch_of (cell_in now 0))
      && (starts (cell_in now 1) && differs q (pitch_of (cell_in now 1))))
      && equal_perfects (interval_of_pitches p q) (interval_in now 0 1))
      (sounding-held 0 behind) (sounding-held 1 behind)

  law_perfect : list_any (breaks_in_bar canon bars n 17) all_sets ≡ breaks_pair canon behind now 17
  law_perfect =
      pair 17 (λ i before col. outer_move_into_perfect ex (newest_column before) col) (row_perfect ex)
      (λ slot before v w late low. ap (λ b. are_outer ex v w && b)
      (and_left _ _ (and_left _ _ (still (newest_column before) now v w))) ∙ and_none (are_outer ex v w))
      ∙ ap₂
      (λ p q. ((starts (cell_in now 0) && differs p (pitch_of (cell_in now 0))
      && (starts (cell_in now 1) && differs q (pitch_of (cell_in now 1))))
      && go_same_way (interval_of_pitches p (pitch_of (cell_in now 0)))
      (interval_of_pitches q (pitch_of (cell_in now 1)))) && sound_perfect now 0 1)
      (sounding-held 0 behind) (sounding-held 1 behind)

  law_final : list_any (breaks_in_bar canon bars n 24) all_sets ≡ breaks_pair canon behind now 24
  law_final =
      in_bar 24 (on_voice ex (λ v. (v == 0) && lacks_final ex (8 * n) now))
      (λ voices ahead. row_final ex voices (8 * n) (held_columns behind) now ahead)
      (λ voices slot before ahead late low. row_final ex voices (8 * n + slot) before (map goes_on now) ahead
      ∙ none_voice ex (λ v. (v == 0) && lacks_final ex (8 * n + slot) (map goes_on now)) voices
      (λ v. ap (λ b. (v == 0) && b) (and_left _ _ (no_last_bar slot late low)) ∙ and_none (v == 0)))
      ∙ voice_sets canon (λ v. (v == 0) && lacks_final ex (8 * n) now)
      ∙ or_none (lacks_final ex (8 * n) now)
      ∙ ap (λ b. b && ends_off_final canon now) is_last_bar

  -- ---- all of them

  voices_keep : list_any (λ rule. list_any (breaks_in_bar canon bars n rule) all_sets) voice_rules
      ≡ (list_any (breaks_voice (pitches (line 0 behind)) (cell_in now 0)) voice_rules
      || list_any (breaks_voice (pitches (line 1 behind)) (cell_in now 1)) voice_rules)
  voices_keep =
      or_both (near 4 moves_unmelodically (row_four ex) quiet_four)
      (or_both (window 6 (row_six ex) quiet_six)
      (or_both (window 7 (row_seven ex) quiet_seven)
      (or_both (window 8 (row_eight ex) quiet_eight)
      (or_both (window 9 (row_nine ex) quiet_nine)
      (or_both (near 26 leaves_sharp (row_sharp ex) quiet_sharp) refl)))))
      ∙ or_split (breaks_voice (pitches (line 0 behind)) (cell_in now 0))
      (breaks_voice (pitches (line 1 behind)) (cell_in now 1)) voice_rules

  pairs_keep : list_any (λ rule. list_any (breaks_in_bar canon bars n rule) all_sets) pair_rules
      ≡ list_any (breaks_pair canon behind now) pair_rules
  pairs_keep =
      or_both law_cross
      (or_both law_unison
      (or_both law_end (or_both law_clash (or_both law_parallel (or_both law_perfect (or_both law_final refl))))))

pub canon_rules_are_the_book : CanonRulesAreTheBook
canon_rules_are_the_book canon bars n within =
    sym (list_any-append (λ rule. list_any (breaks_in_bar canon bars n rule) all_sets) voice_rules pair_rules
    ∙ ap₂ (λ a b. a || b) (voices_keep canon bars n within) (pairs_keep canon bars n within))
