-- Nothing differs just where an answer answers its lesson (`answers_where_none`,
-- `none_where_answers`).
use Rattle.std.proofs.Common.{◌≡◌, ℕ, zero, suc, ◌+◌, ◌-◌, ◌*◌, ◌/◌, ◌%◌, ◌<◌, ◌≤◌, ◌==◌, ◌&&◌, min, Bool, true, false, not, List, [], ◌∷◌, ◌++◌, length, map, slice_get, slice_index_or, Option, None, Some, inl, inr, refl, ap, sym, subst, ◌∙◌, arith, eq-eqb, eqb-true, ne_eqb, true≢false, Decides}
use Rattle.std.specs.Cmp.Lexicographic.{pointwise_decides}
use Rattle.std.specs.List.{AllByRecursion, filter, flat_map, list_all, range_with_len}
use Rattle.std.specs.Option.{option_eq}
use Rattle.std.proofs.lemmas.Bool.{and_from, and_parts, cases_lt, not-false}
use Rattle.std.proofs.lemmas.Bool.Decides.{Decides-and, Decides-eqb, Decides-like}
use Rattle.fux_pitch.specs.declared.mode.Mode.{Mode}
use Rattle.fux_pitch.specs.declared.mode.Mode.TheVariants.{Dorian, Phrygian, Lydian, Mixolydian, Aeolian, Ionian}
use Rattle.fux_pitch.specs.declared.pitch.Pitch.{Pitch}
use Rattle.fux_pitch.specs.Modes.{final_of}
use Rattle.fux_pitch.specs.Pitch.{same_pitch}
use Rattle.fux_pitch.proofs.PitchLemmas.{equal_from_test}
use Rattle.fux_grid.specs.declared.cell.Cell.{Cell}
use Rattle.fux_grid.specs.declared.exercise.Exercise.{Exercise}
use Rattle.fux_grid.specs.declared.exercise.Relax.{Relax}
use Rattle.fux_grid.specs.declared.exercise.VoiceSet.{VoiceSet}
use Rattle.fux_grid.specs.Cells.{cell_in}
use Rattle.fux_grid.specs.Exercises.{FitsGiven, IsComplete, IsFree, IsValid, given_at}
use Rattle.fux_grid.specs.Givens.{fits}
use Rattle.fux_grid.specs.Grid.{Grid}
use Rattle.fux_grid.specs.Menus.{range_of}
use Rattle.fux_grid.proofs.PitchTests.{same_pitch-from_equal}
use Rattle.class_marker.specs.declared.difference.Difference.{Difference}
use Rattle.class_marker.specs.declared.difference.Difference.TheVariants.{Mode as ModeDiffers, Voices, Bars, Species, CantusVoice, Cantus, Range, Relax as RelaxLines, Given}
use Rattle.class_marker.specs.Answering.{AnswersLesson}
use Rattle.class_marker.specs.Differences.{all_differences, common_bars, common_voices, differences, differs, fits_at, fits_in_bar, in_each_bar, is_free_in_both, same_cantus, same_ends, same_range, same_relax, same_set}

-- ---- lists of which no item passes a test

module _ {D : Type 0} (P : D → Bool) where
  abbrev pub Fails : D → Type 0
  Fails x = P x ≡ false

  pub none_kept : (xs : List D) → filter P xs ≡ [] → AllByRecursion Fails xs
  none_kept [] e = tt
  none_kept (x ∷ xs) e = by (P x) refl (none_kept xs)
    where
      by : (b : Bool) → P x ≡ b → (filter P xs ≡ [] → AllByRecursion Fails xs) → AllByRecursion Fails (x ∷ xs)
      by true t more = let kept : x ∷ filter P xs ≡ [] = rw t at e in absurd cc
      by false t more = (t, more (rw t at e))

  pub kept_none : (xs : List D) → AllByRecursion Fails xs → filter P xs ≡ []
  kept_none [] h = refl
  kept_none (x ∷ xs) h = rw h.0 (kept_none xs h.1)

module _ {D : Type 0} (Q : D → Type 0) where
  all_parts : (xs ys : List D) → AllByRecursion Q (xs ++ ys) → AllByRecursion Q xs × AllByRecursion Q ys
  all_parts [] ys h = (tt, h)
  all_parts (x ∷ xs) ys h = let rest = all_parts xs ys h.1 in ((h.0, rest.0), rest.1)

  all_joined : (xs ys : List D) → AllByRecursion Q xs → AllByRecursion Q ys → AllByRecursion Q (xs ++ ys)
  all_joined [] ys h k = k
  all_joined (x ∷ xs) ys h k = (h.0, all_joined xs ys h.1 k)

  -- an item of each number
  at_number : (f : ℕ → D) (a n k : ℕ) → AllByRecursion Q (map f (range_with_len a n)) → a ≤ k → k < a + n → Q (f k)
  at_number f a zero k all low high = absurd (omega (arith, low, high))
  at_number f a (suc n) k all low high = elim (cases_lt a k) [
    | inl above ↦ at_number f (a + 1) n k all.1 (omega (arith, above)) (omega (arith, high))
    | inr last ↦ let here : a ≡ k = omega (arith, low, last) in subst (λ j. Q (f j)) here all.0
  ]

  each_number : (f : ℕ → D) (a n : ℕ) → ((k : ℕ) → a ≤ k → k < a + n → Q (f k)) → AllByRecursion Q (map f (range_with_len a n))
  each_number f a zero h = tt
  each_number f a (suc n) h = (
    h a (omega arith) (omega arith),
    each_number f (a + 1) n (λ k low high. h k (omega (arith, low)) (omega (arith, high))),
  )

  -- a part of each number
  at_part : (g : ℕ → List D) (a n k : ℕ) → AllByRecursion Q (flat_map g (range_with_len a n)) → a ≤ k → k < a + n
      → AllByRecursion Q (g k)
  at_part g a zero k all low high = absurd (omega (arith, low, high))
  at_part g a (suc n) k all low high =
      let parts = all_parts (g a) (flat_map g (range_with_len (a + 1) n)) all in
      elim (cases_lt a k) [
        | inl above ↦ at_part g (a + 1) n k parts.1 (omega (arith, above)) (omega (arith, high))
        | inr last ↦ let here : a ≡ k = omega (arith, low, last) in subst (λ j. AllByRecursion Q (g j)) here parts.0
      ]

  each_part : (g : ℕ → List D) (a n : ℕ) → ((k : ℕ) → a ≤ k → k < a + n → AllByRecursion Q (g k))
      → AllByRecursion Q (flat_map g (range_with_len a n))
  each_part g a zero h = tt
  each_part g a (suc n) h = all_joined (g a) (flat_map g (range_with_len (a + 1) n)) (h a (omega arith) (omega arith))
      (each_part g (a + 1) n (λ k low high. h k (omega (arith, low)) (omega (arith, high))))

-- a test that passes at each number
passes_at : (test : ℕ → Bool) (a n k : ℕ) → list_all test (range_with_len a n) ≡ true → a ≤ k → k < a + n → test k ≡ true
passes_at test a zero k all low high = absurd (omega (arith, low, high))
passes_at test a (suc n) k all low high =
    let parts = and_parts (test a) (list_all test (range_with_len (a + 1) n)) all in
    elim (cases_lt a k) [
      | inl above ↦ passes_at test (a + 1) n k parts.1 (omega (arith, above)) (omega (arith, high))
      | inr last ↦ let here : a ≡ k = omega (arith, low, last) in subst (λ j. test j ≡ true) here parts.0
    ]

passes_each : (test : ℕ → Bool) (a n : ℕ) → ((k : ℕ) → a ≤ k → k < a + n → test k ≡ true)
    → list_all test (range_with_len a n) ≡ true
passes_each test a zero h = refl
passes_each test a (suc n) h =
    rw (
      h a (omega arith) (omega arith),
      passes_each test (a + 1) n (λ k low high. h k (omega (arith, low)) (omega (arith, high))),
    ) refl

-- ---- what the tests decide

-- the mode of a final
mode_with : ℕ → Mode
mode_with zero = Ionian
mode_with (suc zero) = Dorian
mode_with (suc (suc zero)) = Phrygian
mode_with (suc (suc (suc zero))) = Lydian
mode_with (suc (suc (suc (suc zero)))) = Mixolydian
mode_with (suc (suc (suc (suc (suc n))))) = Aeolian

mode_back : (mode : Mode) → mode_with (final_of mode) ≡ mode
unfolding mode_with
mode_back Dorian = refl
mode_back Phrygian = refl
mode_back Lydian = refl
mode_back Mixolydian = refl
mode_back Aeolian = refl
mode_back Ionian = refl

one_mode : (mode other : Mode) → (final_of mode == final_of other) ≡ true → mode ≡ other
one_mode mode other e = sym (mode_back mode) ∙ ap mode_with (eqb-true _ _ e) ∙ mode_back other

pitches_decide : (p q : Pitch) → Decides (same_pitch p q) (p ≡ q)
pitches_decide p q = (equal_from_test p q, same_pitch-from_equal p q)

options_decide : {K : Type 0} (E : K → K → Bool) → ((x y : K) → Decides (E x y) (x ≡ y)) → (p q : Option K)
    → Decides (option_eq E p q) (p ≡ q)
options_decide E each None None = (λ e. refl, λ e. refl)
options_decide E each None (Some y) = (λ e. cc, λ e. cc)
options_decide E each (Some x) None = (λ e. cc, λ e. cc)
options_decide E each (Some x) (Some y) = (λ e. ap (λ z. Some z) ((each x y).0 e), λ e. (each x y).1 cc)

pairs_decide : (ends others : Pitch × Pitch) → Decides (same_ends ends others) (ends ≡ others)
pairs_decide ends others =
    Decides-like _ (λ h i. (h.0 i, h.1 i))
    (λ e. (ap (λ (p : Pitch × Pitch). p.0) e, ap (λ (p : Pitch × Pitch). p.1) e))
    (Decides-and _ _ (pitches_decide ends.0 others.0) (pitches_decide ends.1 others.1))

sets_decide : (set other : VoiceSet) → Decides (same_set set other) (set ≡ other)
sets_decide set other =
    Decides-like _ (λ (e : set.bits ≡ other.bits) i. record { bits = e i }) (λ e. ap (λ (s : VoiceSet). s.bits) e)
    (Decides-eqb set.bits other.bits)

relax_decide : (line other : Relax) → Decides (same_relax line other) (line ≡ other)
relax_decide line other =
    Decides-like _ (λ h i. record {
      rule = h.0.0.0.0 i;
      voices = h.0.0.0.1 i;
      from = h.0.0.1 i;
      to = h.0.1 i;
      price = h.1 i;
    }) (λ e. (
      (
        (
          (ap (λ (l : Relax). l.rule) e, ap (λ (l : Relax). l.voices) e),
          ap (λ (l : Relax). l.from) e,
        ),
        ap (λ (l : Relax). l.to) e,
      ),
      ap (λ (l : Relax). l.price) e,
    ))
    (Decides-and _ _ (Decides-and _ _ (Decides-and _ _ (Decides-and _ _ (Decides-eqb line.rule other.rule)
    (options_decide same_set sets_decide line.voices other.voices)) (Decides-eqb line.from other.from))
    (Decides-eqb line.to other.to)) (Decides-eqb line.price other.price))

-- lists of pitches that are the same at each place
same_pitches : (ps qs : List Pitch) → length ps ≡ length qs
    → ((k : ℕ) → k < length ps → option_eq same_pitch (slice_get ps k) (slice_get qs k) ≡ true) → ps ≡ qs
same_pitches [] [] long each = refl
same_pitches [] (q ∷ qs) long each = absurd (omega (arith, long))
same_pitches (p ∷ ps) [] long each = absurd (omega (arith, long))
same_pitches (p ∷ ps) (q ∷ qs) long each =
    let first = equal_from_test p q (each 0 (omega arith)) in
    let rest = same_pitches ps qs (omega (arith, long)) (λ k within. each (suc k) (omega (arith, within))) in
    λ i. first i ∷ rest i

-- ---- the law

module _ (lesson answer : Exercise) (score : Grid) (valid : IsValid lesson) (answer_valid : IsValid answer)
    (complete : IsComplete answer score) where
  abbrev pub s : List (List Cell)
  s = score.columns

  abbrev Same : Difference → Type 0
  Same = Fails (differs lesson answer s)

  abbrev head : List Difference
  head = ModeDiffers ∷ Voices ∷ Bars ∷ Species ∷ CantusVoice ∷ []

  abbrev cantus : List Difference
  cantus = map (λ bar. Cantus bar) (common_bars lesson answer)

  abbrev ranges : List Difference
  ranges = in_each_bar (λ v bar. Range v bar) (common_voices lesson answer) (common_bars lesson answer)

  abbrev given : List Difference
  given = in_each_bar (λ v bar. Given v bar) (common_voices lesson answer) (common_bars lesson answer)

  module _ (none : differences lesson answer s ≡ []) where
    all : AllByRecursion Same (head ++ cantus ++ ranges ++ (RelaxLines ∷ []) ++ given)
    all = none_kept (differs lesson answer s)
        (all_differences (common_voices lesson answer) (common_bars lesson answer)) none

    before_given : AllByRecursion Same (head ++ cantus ++ ranges ++ (RelaxLines ∷ [])) × AllByRecursion Same given
    before_given = all_parts Same (head ++ cantus ++ ranges ++ (RelaxLines ∷ [])) given all

    before_relax : AllByRecursion Same (head ++ cantus ++ ranges) × AllByRecursion Same (RelaxLines ∷ [])
    before_relax = all_parts Same (head ++ cantus ++ ranges) (RelaxLines ∷ []) before_given.0

    before_ranges : AllByRecursion Same (head ++ cantus) × AllByRecursion Same ranges
    before_ranges = all_parts Same (head ++ cantus) ranges before_relax.0

    before_cantus : AllByRecursion Same head × AllByRecursion Same cantus
    before_cantus = all_parts Same head cantus before_ranges.0

    same_voices : lesson.voices ≡ answer.voices
    same_voices = eqb-true _ _ (not-false _ before_cantus.0.1.0)

    same_bars : lesson.bars ≡ answer.bars
    same_bars = eqb-true _ _ (not-false _ before_cantus.0.1.1.0)

    same_voice : lesson.cantus_voice ≡ answer.cantus_voice
    same_voice = eqb-true _ _ (not-false _ before_cantus.0.1.1.1.1.0)

    both_species : ((lesson.species == answer.species) ≡ true) × ((lesson.species_voice == answer.species_voice) ≡ true)
    both_species = and_parts _ _ (not-false _ before_cantus.0.1.1.1.0)

    cantus_at : (k : ℕ) → k < length lesson.cantus
        → option_eq same_pitch (slice_get lesson.cantus k) (slice_get answer.cantus k) ≡ true
    cantus_at k within =
        let back : k + 1 - 1 ≡ k = omega arith in
        let here : same_cantus lesson answer (k + 1) ≡ true =
        not-false _ (at_number Same (λ bar. Cantus bar) 1 (min lesson.bars answer.bars) (k + 1) before_cantus.1 (omega arith)
        (omega (arith, within, valid.whole_cantus, same_bars))) in
        subst (λ j. option_eq same_pitch (slice_get lesson.cantus j) (slice_get answer.cantus j) ≡ true) back here

    range_at : (v bar : ℕ) → IsFree lesson v → 1 ≤ bar → bar ≤ lesson.bars → range_of lesson v bar ≡ range_of answer v bar
    range_at v bar free low high =
        let lesson_free = ne_eqb v lesson.cantus_voice free.no_cantus in
        let answer_free = ne_eqb v answer.cantus_voice (λ e. free.no_cantus (e ∙ sym same_voice)) in
        let here : (is_free_in_both lesson answer v && not (same_range lesson answer v bar)) ≡ false =
        at_number Same (λ b. Range v b) 1 (min lesson.bars answer.bars) bar
        (at_part Same (λ w. map (λ b. Range w b) (common_bars lesson answer)) 0 (min lesson.voices answer.voices) v
        before_ranges.1 (omega arith) (omega (arith, free.there, same_voices))) low (omega (arith, high, same_bars)) in
        (options_decide same_ends pairs_decide _ _).0 (not-false _ (rw (lesson_free, answer_free) at here))

    given_fits : FitsGiven lesson s
    unfolding fits_in_bar
    given_fits i v within there =
        let bar = i / 8 + 1 in
        let long : length s ≡ 8 * answer.bars = complete.whole in
        let here : list_all (fits_at lesson s v bar) (range_with_len 0 8) ≡ true =
        not-false _ (at_number Same (λ b. Given v b) 1 (min lesson.bars answer.bars) bar
        (at_part Same (λ w. map (λ b. Given w b) (common_bars lesson answer)) 0 (min lesson.voices answer.voices) v
        before_given.1 (omega arith) (omega (arith, there, same_voices))) (omega arith)
        (omega (arith, within, long, same_bars))) in
        let place : 8 * (i / 8 + 1 - 1) + i % 8 ≡ i = omega arith in
        subst (λ j. fits (given_at lesson j v) (cell_in (slice_index_or s j []) v) ≡ true) place
        (passes_at (fits_at lesson s v bar) 0 8 (i % 8) here (omega arith) (omega arith))

    pub answers_where_none : AnswersLesson lesson answer score.columns
    answers_where_none = record {
      mode = one_mode _ _ (not-false _ before_cantus.0.0);
      voices = same_voices;
      bars = same_bars;
      species = eqb-true _ _ both_species.0;
      species_voice = eqb-true _ _ both_species.1;
      cantus_voice = same_voice;
      cantus = same_pitches lesson.cantus answer.cantus
          (omega (arith, valid.whole_cantus, answer_valid.whole_cantus, same_bars)) cantus_at;
      ranges = range_at;
      relax = (pointwise_decides relax_decide lesson.relax answer.relax).0 (not-false _ before_relax.1.0);
      given = given_fits;
    }

  module _ (answers : AnswersLesson lesson answer score.columns) where
    cantus_same : (bar : ℕ) → same_cantus lesson answer bar ≡ true
    cantus_same bar =
        (options_decide same_pitch pitches_decide _ _).1 (ap (λ ps. slice_get ps (bar - 1)) answers.cantus)

    free_case : (v bar : ℕ) → v < lesson.voices → 1 ≤ bar → bar ≤ lesson.bars → (b : Bool)
        → is_free_in_both lesson answer v ≡ b → Same (Range v bar)
    free_case v bar there low high false e = rw e refl
    free_case v bar there low high true e =
        let free : IsFree lesson v = record { there = there; no_cantus = λ same. not_free same } in
        let one = (options_decide same_ends pairs_decide _ _).1 (answers.ranges v bar free low high) in
        rw (e, one) refl
      where
        not_free : v ≡ lesson.cantus_voice → ⊥
        not_free same =
            let other = (and_parts (not (v == lesson.cantus_voice)) (not (v == answer.cantus_voice)) e).0 in
            let is = eq-eqb v lesson.cantus_voice same in
            true≢false (sym other ∙ ap not is)

    range_same : (v bar : ℕ) → v < lesson.voices → 1 ≤ bar → bar ≤ lesson.bars → Same (Range v bar)
    range_same v bar there low high = free_case v bar there low high (is_free_in_both lesson answer v) refl

    given_same : (v bar : ℕ) → v < lesson.voices → 1 ≤ bar → bar ≤ answer.bars → Same (Given v bar)
    unfolding fits_in_bar
    given_same v bar there low high =
        let long : length s ≡ 8 * answer.bars = complete.whole in
        ap not (passes_each (fits_at lesson s v bar) 0 8 (λ k first last.
        answers.given (8 * (bar - 1) + k) v (omega (arith, long, low, high, last)) there))

    head_same : AllByRecursion Same head
    head_same = (
      ap not (eq-eqb _ _ (ap final_of answers.mode)),
      (
        ap not (eq-eqb _ _ answers.voices),
        (
          ap not (eq-eqb _ _ answers.bars),
          (
            ap not (and_from _ _ (eq-eqb _ _ answers.species) (eq-eqb _ _ answers.species_voice)),
            (ap not (eq-eqb _ _ answers.cantus_voice), tt),
          ),
        ),
      ),
    )

    pub none_where_answers : differences lesson answer score.columns ≡ []
    none_where_answers =
        let n = min lesson.bars answer.bars in
        let m = min lesson.voices answer.voices in
        kept_none (differs lesson answer s) (all_differences (common_voices lesson answer) (common_bars lesson answer))
        (all_joined Same (head ++ cantus ++ ranges ++ (RelaxLines ∷ [])) given
        (all_joined Same (head ++ cantus ++ ranges) (RelaxLines ∷ [])
        (all_joined Same (head ++ cantus) ranges
        (all_joined Same head cantus head_same
        (each_number Same (λ bar. Cantus bar) 1 n (λ bar low high. ap not (cantus_same bar))))
        (each_part Same (λ v. map (λ bar. Range v bar) (common_bars lesson answer)) 0 m (λ v first last.
        each_number Same (λ bar. Range v bar) 1 n (λ bar low high.
        range_same v bar (omega (arith, last)) low (omega (arith, high))))))
        (ap not ((pointwise_decides relax_decide lesson.relax answer.relax).1 answers.relax), tt))
        (each_part Same (λ v. map (λ bar. Given v bar) (common_bars lesson answer)) 0 m (λ v first last.
        each_number Same (λ bar. Given v bar) 1 n (λ bar low high.
        given_same v bar (omega (arith, last)) low (omega (arith, high))))))
