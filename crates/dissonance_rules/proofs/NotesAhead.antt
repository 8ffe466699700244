-- In an orderly list a voice starts notes before long (`next_soon`, `second_next_soon`).
use Rattle.std.specs.Prelude.{◌≡◌, ℕ, zero, suc, ◌+◌, ◌-◌, ◌*◌, ◌/◌, ◌%◌, ◌<◌, ◌≤◌, ◌==◌, ◌&&◌, Bool, true, false, nat_eq, nat_lt, List, [], ◌∷◌, is_some, codes, drop, length, map, slice_index, slice_index_or, refl}
use Rattle.std.specs.List.{list_all, list_any, starts_with}
use Rattle.std.proofs.Common.{ap, sym, ◌∙◌, subst, inl, inr, arith}
use Rattle.std.proofs.lemmas.Bool.{and_from, and_parts, cases_eq, cond_both, lt-ltb, eq-eqb, eqb-true, ltb-true, ne_eqb, or_cases, or_left, or_right}
use Rattle.std.proofs.lemmas.Bool.Decides.{nat_tests}
use Rattle.std.proofs.lemmas.List.{get_or-drop, get_or-take, length-drop, length-map, length-take}
use Rattle.fux_grid.specs.declared.cell.Cell.{Cell}
use Rattle.fux_grid.specs.declared.cell.Cell.TheVariants.{Rest, Hold, Start}
use Rattle.fux_grid.specs.declared.exercise.Exercise.{Exercise}
use Rattle.fux_grid.specs.Cells.{cell_in, first_of, onsets_from}
use Rattle.fux_grid.specs.Columns.{cell_at, line}
use Rattle.fux_grid.specs.Exercises.{IsFree, species_in}
use Rattle.fux_grid.specs.Letters.{bar_columns, letters_of}
use Rattle.fux_grid.specs.Orderly.{IsOrderly}
use Rattle.fux_grid.specs.Shapes.{begins_shape, fifth_shapes, fourth_shapes, letter_of, second_shapes, shapes_in, third_shapes}
use Rattle.rule_law.specs.After.{next_onset, second_next_onset, second_of}
use Rattle.rule_law.specs.Terms.{starts}
use Rattle.dissonance_rules.specs.Book.{reach}
use Rattle.dissonance_rules.specs.Passing.{has_notes_after, has_ornaments}

-- ---- a start among the cells ahead

get_or-map : {X Y : Type 0} (f : X → Y) (xs : List X) (k : ℕ) (d : Y) (e : X) → k < length xs
    → slice_index_or (map f xs) k d ≡ f (slice_index_or xs k e)
get_or-map f [] k d e h = absurd (omega (arith, h))
get_or-map f (x ∷ xs) zero d e h = refl
get_or-map f (x ∷ xs) (suc k) d e h = get_or-map f xs k d e (omega (arith, h))

some_first : (n : ℕ) (cells : List Cell) (k : ℕ) → k < length cells → starts (cell_in cells k) ≡ true
    → is_some (first_of (onsets_from n cells)) ≡ true
some_first n [] k h e = absurd (omega (arith, h))
some_first n (Start p ∷ cells) k h e = refl
some_first n (Rest ∷ cells) zero h e = cc
some_first n (Rest ∷ cells) (suc k) h e = some_first (suc n) cells k (omega (arith, h)) e
some_first n (Hold p ∷ cells) zero h e = cc
some_first n (Hold p ∷ cells) (suc k) h e = some_first (suc n) cells k (omega (arith, h)) e

some_second : (n : ℕ) (cells : List Cell) (k l : ℕ) → k < l → l < length cells → starts (cell_in cells k) ≡ true
    → starts (cell_in cells l) ≡ true → is_some (second_of (onsets_from n cells)) ≡ true
some_second n cells k zero o h e f = absurd (omega (arith, o))
some_second n [] k (suc l) o h e f = absurd (omega (arith, h))
some_second n (Start p ∷ cells) k (suc l) o h e f = some_first (suc n) cells l (omega (arith, h)) f
some_second n (Rest ∷ cells) zero (suc l) o h e f = cc
some_second n (Rest ∷ cells) (suc k) (suc l) o h e f =
    some_second (suc n) cells k l (omega (arith, o)) (omega (arith, h)) e f
some_second n (Hold p ∷ cells) zero (suc l) o h e f = cc
some_second n (Hold p ∷ cells) (suc k) (suc l) o h e f =
    some_second (suc n) cells k l (omega (arith, o)) (omega (arith, h)) e f

module _ (p : List (List Cell)) (v i : ℕ) where
  ahead_cell : (j : ℕ) → i < j → j < length p → cell_in (line v (drop (i + 1) p)) (j - (i + 1)) ≡ cell_at p v j
  ahead_cell j after here =
      get_or-map (λ col. cell_in col v) (drop (i + 1) p) (j - (i + 1)) Rest []
      (omega (arith, length-drop (i + 1) p, after, here))
      ∙ ap (λ col. cell_in col v) (get_or-drop (i + 1) p (j - (i + 1)) []
      ∙ ap (λ k. slice_index_or p k []) (place (omega (arith, after))))
    where
      place : i + 1 ≤ j → i + 1 + (j - (i + 1)) ≡ j
      place h = omega (arith, h)

  ahead_within : (j : ℕ) → i < j → j < length p → j - (i + 1) < length (line v (drop (i + 1) p))
  ahead_within j after here =
      omega (arith, length-map (drop (i + 1) p) (λ col. cell_in col v), length-drop (i + 1) p, after, here)

  -- a start after a column is that of a next note, and a further one of the note after that
  pub next_from_start : (j : ℕ) → i < j → j < length p → starts (cell_at p v j) ≡ true
      → is_some (next_onset i v (drop (i + 1) p)) ≡ true
  next_from_start j after here e =
      some_first (i + 1) (line v (drop (i + 1) p)) (j - (i + 1)) (ahead_within j after here)
      (ap starts (ahead_cell j after here) ∙ e)

  pub second_from_starts : (j k : ℕ) → i < j → j < k → k < length p → starts (cell_at p v j) ≡ true
      → starts (cell_at p v k) ≡ true → is_some (second_next_onset i v (drop (i + 1) p)) ≡ true
  second_from_starts j k after later here e f =
      some_second (i + 1) (line v (drop (i + 1) p)) (j - (i + 1)) (k - (i + 1)) (omega (arith, after, later))
      (ahead_within k (omega (arith, after, later)) here)
      (ap starts (ahead_cell j after (omega (arith, later, here))) ∙ e)
      (ap starts (ahead_cell k (omega (arith, after, later)) here) ∙ f)

-- ---- starts that each shape shows

-- the shape has a start at one of these slots
abbrev shows : List ℕ → List ℕ → Bool
shows slots shape = list_any (λ k. slice_index shape k == 83) slots

-- letters with which a shape starts are its own
same_letter : (shape letters : List ℕ) (k : ℕ) → starts_with nat_eq shape letters ≡ true → k < length letters
    → slice_index letters k ≡ slice_index shape k
same_letter shape [] k h within = absurd (omega (arith, within))
same_letter [] (l ∷ letters) k h within = cc
same_letter (s ∷ shape) (l ∷ letters) zero h within =
    eqb-true l s (and_parts (nat_eq l s) (starts_with nat_eq shape letters) h).0
same_letter (s ∷ shape) (l ∷ letters) (suc k) h within =
    same_letter shape letters k (and_parts (nat_eq l s) (starts_with nat_eq shape letters) h).1 (omega (arith, within))

-- of the slots at which each shape has a start, letters that begin a shape have a start at one
one_shown : (shape letters slots : List ℕ) → starts_with nat_eq shape letters ≡ true
    → list_all (λ k. nat_lt k (length letters)) slots ≡ true → shows slots shape ≡ true → shows slots letters ≡ true
one_shown shape letters [] h within all = cc
one_shown shape letters (k ∷ slots) h within all =
    let parts = and_parts (nat_lt k (length letters)) (list_all (λ k. nat_lt k (length letters)) slots) within in
    let same : slice_index letters k ≡ slice_index shape k = same_letter shape letters k h
    (ltb-true k (length letters) parts.0) in
    elim (or_cases (slice_index shape k == 83) (shows slots shape) all) [
      | inl e ↦ or_left (slice_index letters k == 83) (shows slots letters) (ap (λ l. l == 83) same ∙ e)
      | inr e ↦ or_right (slice_index letters k == 83) (shows slots letters) (one_shown shape letters slots h parts.1 e)
    ]

some_shown : (shapes : List (List ℕ)) (letters slots : List ℕ) → begins_shape shapes letters ≡ true
    → list_all (λ k. nat_lt k (length letters)) slots ≡ true → list_all (shows slots) shapes ≡ true
    → shows slots letters ≡ true
some_shown [] letters slots h within all = cc
some_shown (shape ∷ shapes) letters slots h within all =
    let parts = and_parts (shows slots shape) (list_all (shows slots) shapes) all in
    elim (or_cases (starts_with nat_eq shape letters) (begins_shape shapes letters) h) [
      | inl e ↦ one_shown shape letters slots e within parts.0
      | inr e ↦ some_shown shapes letters slots e within parts.1
    ]

start_from_letter : (c : Cell) → (letter_of c == 83) ≡ true → starts c ≡ true
start_from_letter Rest e = cc
start_from_letter (Hold p) e = cc
start_from_letter (Start p) e = refl

-- one of these slots of a bar, which begins at column 8 * c, has a start
pub record StartsAmong (p : List (List Cell)) (v c : ℕ) (slots : List ℕ) : Type 0 where
  pub slot : ℕ
  pub among : list_any (λ k. slot == k) slots ≡ true
  pub start : starts (cell_at p v (8 * c + slot)) ≡ true

module _ (p : List (List Cell)) (v c : ℕ) where
  letters-length : (k : ℕ) → k < 8 → 8 * c + k < length p → k < length (letters_of v (bar_columns p (c + 1)))
  letters-length k short here =
      omega (
        arith,
        length-map (bar_columns p (c + 1)) (λ col. letter_of (cell_in col v)),
        length-take 8
            (drop (8 * (c + 1 - 1)) p),
        length-drop (8 * (c + 1 - 1)) p,
        short,
        here,
      )

  letter_at : (k : ℕ) → k < 8 → 8 * c + k < length p → slice_index (letters_of v (bar_columns p (c + 1))) k
      ≡ letter_of (cell_at p v (8 * c + k))
  letter_at k short here =
      get_or-map (λ col. letter_of (cell_in col v)) (bar_columns p (c + 1)) k 0 []
      (omega (
        arith,
        letters-length k short here,
        length-map (bar_columns p (c + 1))
            (λ col. letter_of (cell_in col v)),
      ))
      ∙ ap (λ col. letter_of (cell_in col v))
      (get_or-take 8 (drop (8 * (c + 1 - 1)) p) k [] short ∙ get_or-drop (8 * (c + 1 - 1)) p k []
      ∙ ap (λ n. slice_index_or p n []) place)
    where
      place : 8 * (c + 1 - 1) + k ≡ 8 * c + k
      place = omega arith

  among_shown : (slots : List ℕ) → list_all (λ k. nat_lt k 8 && nat_lt (8 * c + k) (length p)) slots ≡ true
      → shows slots (letters_of v (bar_columns p (c + 1))) ≡ true → StartsAmong p v c slots
  among_shown [] within h = cc
  among_shown (k ∷ slots) within h =
      let parts = and_parts (nat_lt k 8 && nat_lt (8 * c + k) (length p))
      (list_all (λ k. nat_lt k 8 && nat_lt (8 * c + k) (length p)) slots) within in
      let here = and_parts (nat_lt k 8) (nat_lt (8 * c + k) (length p)) parts.0 in
      elim (or_cases (slice_index (letters_of v (bar_columns p (c + 1))) k == 83)
      (shows slots (letters_of v (bar_columns p (c + 1)))) h) [
        | inl e ↦
            record {
              slot = k;
              among = or_left (k == k) (list_any (λ l. k == l) slots) (eq-eqb k k refl);
              start = start_from_letter (cell_at p v (8 * c + k))
                  (ap (λ l. l == 83) (sym (letter_at k (ltb-true k 8 here.0) (ltb-true (8 * c + k) (length p) here.1)))
                  ∙ e);
            }
        | inr e ↦
            let more = among_shown slots parts.1 e in
            record {
              slot = more.slot;
              among = or_right (more.slot == k) (list_any (λ l. more.slot == l) slots) more.among;
              start = more.start;
            }
      ]

  -- in an orderly list a voice starts a note at one of the slots where each shape of the bar has a
  -- start
  pub starts_in_bar : (ex : Exercise) (slots : List ℕ) → IsOrderly ex p → IsFree ex v → 8 * c < length p
      → list_all (λ k. nat_lt k 8 && nat_lt (8 * c + k) (length p)) slots ≡ true
      → list_all (shows slots) (shapes_in (species_in ex v) (c + 1) ex.bars) ≡ true → StartsAmong p v c slots
  starts_in_bar ex slots orderly free begun within all =
      among_shown slots within
      (some_shown (shapes_in (species_in ex v) (c + 1) ex.bars) (letters_of v (bar_columns p (c + 1))) slots
      (orderly v (c + 1) free (omega arith, omega (arith, begun))) (short slots within) all)
    where
      short : (slots : List ℕ) → list_all (λ k. nat_lt k 8 && nat_lt (8 * c + k) (length p)) slots ≡ true
          → list_all (λ k. nat_lt k (length (letters_of v (bar_columns p (c + 1))))) slots ≡ true
      short [] h = refl
      short (k ∷ slots) h =
          let parts = and_parts (nat_lt k 8 && nat_lt (8 * c + k) (length p))
          (list_all (λ k. nat_lt k 8 && nat_lt (8 * c + k) (length p)) slots) h in
          let here = and_parts (nat_lt k 8) (nat_lt (8 * c + k) (length p)) parts.0 in
          and_from (nat_lt k (length (letters_of v (bar_columns p (c + 1))))) _
          (lt-ltb k _ (letters-length k (ltb-true k 8 here.0) (ltb-true (8 * c + k) (length p) here.1)))
          (short slots parts.1)

-- ---- where the shapes of each species have starts

second_at_half : (bar : ℕ) → list_all (shows (4 ∷ [])) (second_shapes bar) ≡ true
second_at_half bar = cond_both (bar == 1) _ _ (λ others. list_all (shows (4 ∷ [])) (codes "SHHHSHHH" ∷ others) ≡ true)
    (λ _. refl) (λ _. refl)

second_at_bar : (bar : ℕ) → (bar == 1) ≡ false → list_all (shows (0 ∷ [])) (second_shapes bar) ≡ true
second_at_bar bar later = rw later refl

third_at_two : (bar : ℕ) → list_all (shows (2 ∷ [])) (third_shapes bar) ≡ true
third_at_two bar = cond_both (bar == 1) _ _ (λ others. list_all (shows (2 ∷ [])) (codes "SHSHSHSH" ∷ others) ≡ true)
    (λ _. refl) (λ _. refl)

third_at_half : (bar : ℕ) → list_all (shows (4 ∷ [])) (third_shapes bar) ≡ true
third_at_half bar = cond_both (bar == 1) _ _ (λ others. list_all (shows (4 ∷ [])) (codes "SHSHSHSH" ∷ others) ≡ true)
    (λ _. refl) (λ _. refl)

third_at_six : (bar : ℕ) → list_all (shows (6 ∷ [])) (third_shapes bar) ≡ true
third_at_six bar = cond_both (bar == 1) _ _ (λ others. list_all (shows (6 ∷ [])) (codes "SHSHSHSH" ∷ others) ≡ true)
    (λ _. refl) (λ _. refl)

third_at_bar : (bar : ℕ) → (bar == 1) ≡ false → list_all (shows (0 ∷ [])) (third_shapes bar) ≡ true
third_at_bar bar later = rw later refl

fourth_at_half : (bar : ℕ) → list_all (shows (4 ∷ [])) (fourth_shapes bar) ≡ true
fourth_at_half bar =
    cond_both (bar == 1) _ _ (λ shapes. list_all (shows (4 ∷ [])) shapes ≡ true) (λ _. refl) (λ _. refl)

fifth_by_half : (bar : ℕ) → (bar == 1) ≡ false → list_all (shows (0 ∷ 2 ∷ 4 ∷ [])) (fifth_shapes bar) ≡ true
fifth_by_half bar later = rw later refl

-- an orderly list in which the last bar hasn't begun, and a free voice
module _ (ex : Exercise) (p : List (List Cell)) (v : ℕ) (orderly : IsOrderly ex p) (free : IsFree ex v)
    (unended : length p ≤ 8 * (ex.bars - 1)) where
  no_last : (j : ℕ) → j < length p → (j / 8 + 1 == ex.bars) ≡ false
  no_last j here = ne_eqb (j / 8 + 1) ex.bars (λ e. omega (arith, e, here, unended))

  no_first : (j : ℕ) → 8 ≤ j → (j / 8 + 1 == 1) ≡ false
  no_first j h = ne_eqb (j / 8 + 1) 1 (λ e. omega (arith, e, h))

  start_at : (j slot : ℕ) → j < length p → j % 8 ≡ slot
      → list_all (shows (slot ∷ [])) (shapes_in (species_in ex v) (j / 8 + 1) ex.bars) ≡ true → starts (cell_at p v j)
      ≡ true
  start_at j slot here e all =
      let short : slot < 8 = omega (arith, e) in
      let place : 8 * (j / 8) + slot ≡ j = omega (arith, e) in
      let within : (nat_lt slot 8 && nat_lt (8 * (j / 8) + slot) (length p)) ≡ true =
      and_from (nat_lt slot 8) (nat_lt (8 * (j / 8) + slot) (length p)) (lt-ltb slot 8 short)
      (lt-ltb (8 * (j / 8) + slot) (length p) (omega (arith, place, here))) in
      let found = starts_in_bar p v (j / 8) ex (slot ∷ []) orderly free (omega (arith, here))
      (and_from (nat_lt slot 8 && nat_lt (8 * (j / 8) + slot) (length p)) true within refl) all in
      elim (or_cases (found.slot == slot) false found.among) [
        | inl same ↦ sym (ap (λ k. starts (cell_at p v k))
            (ap (λ k. 8 * (j / 8) + k) (eqb-true found.slot slot same) ∙ place)) ∙ found.start
        | inr none ↦ cc
      ]

  shapes_of : (n : ℕ) (bar : ℕ) → species_in ex v ≡ n → shapes_in (species_in ex v) bar ex.bars
      ≡ shapes_in n bar ex.bars
  shapes_of n bar e = ap (λ k. shapes_in k bar ex.bars) e

  second_starts : species_in ex v ≡ 2 → (j : ℕ) → j < length p → 4 ≤ j → j % 4 ≡ 0 → starts (cell_at p v j) ≡ true
  second_starts e j here past four =
      elim (cases_eq (j % 8) 4) [
        | inl half ↦ start_at j 4 here half
            (rw (shapes_of 2 (j / 8 + 1) e, no_last j here) (second_at_half (j / 8 + 1)))
        | inr other ↦
            let bar : j % 8 ≡ 0 = omega (arith, four, other) in
            start_at j 0 here bar (rw (shapes_of 2 (j / 8 + 1) e, no_last j here)
            (second_at_bar (j / 8 + 1) (no_first j (omega (arith, bar, past)))))
      ]

  third_starts : species_in ex v ≡ 3 → (j : ℕ) → j < length p → 2 ≤ j → j % 2 ≡ 0 → starts (cell_at p v j) ≡ true
  third_starts e j here past even =
      elim (cases_eq (j % 8) 0) [
        | inl bar ↦ start_at j 0 here bar (rw (shapes_of 3 (j / 8 + 1) e, no_last j here)
            (third_at_bar (j / 8 + 1) (no_first j (omega (arith, bar, past)))))
        | inr a ↦ elim (cases_eq (j % 8) 2) [
          | inl two ↦ start_at j 2 here two (rw (shapes_of 3 (j / 8 + 1) e, no_last j here) (third_at_two (j / 8 + 1)))
          | inr b ↦ elim (cases_eq (j % 8) 4) [
            | inl half ↦ start_at j 4 here half
                (rw (shapes_of 3 (j / 8 + 1) e, no_last j here) (third_at_half (j / 8 + 1)))
            | inr c ↦ start_at j 6 here (omega (arith, even, a, b, c))
                (rw (shapes_of 3 (j / 8 + 1) e, no_last j here) (third_at_six (j / 8 + 1)))
          ]
        ]
      ]

  fourth_starts : species_in ex v ≡ 4 → (j : ℕ) → j < length p → j % 8 ≡ 4 → starts (cell_at p v j) ≡ true
  fourth_starts e j here half =
      start_at j 4 here half (rw (shapes_of 4 (j / 8 + 1) e, no_last j here) (fourth_at_half (j / 8 + 1)))

  -- in each other species, a note by the middle of each bar but the first
  florid_starts_by_half : (species_in ex v == 1) ≡ false → (species_in ex v == 2) ≡ false → (species_in ex v == 3)
      ≡ false → (species_in ex v == 4) ≡ false → (c : ℕ) → 1 ≤ c → 8 * c + 4 < length p
      → StartsAmong p v c (0 ∷ 2 ∷ 4 ∷ [])
  florid_starts_by_half e1 e2 e3 e4 c past here =
      let no_last : (c + 1 == ex.bars) ≡ false = ne_eqb (c + 1) ex.bars (λ e. omega (arith, e, here, unended)) in
      let no_first : (c + 1 == 1) ≡ false = ne_eqb (c + 1) 1 (λ e. omega (arith, e, past)) in
      let at : (k : ℕ) → k ≤ 4 → (nat_lt k 8 && nat_lt (8 * c + k) (length p)) ≡ true =
      λ k low. and_from (nat_lt k 8) (nat_lt (8 * c + k) (length p)) (lt-ltb k 8 (omega (arith, low)))
      (lt-ltb (8 * c + k) (length p) (omega (arith, low, here))) in
      starts_in_bar p v c ex (0 ∷ 2 ∷ 4 ∷ []) orderly free (omega (arith, here))
      (rw (at 0 (omega arith), at 2 (omega arith), at 4 (omega arith)) refl)
      (rw (e1, e2, e3, e4, no_last) (fifth_by_half (c + 1) no_first))

  low_slot : (k : ℕ) → list_any (λ l. k == l) (0 ∷ 2 ∷ 4 ∷ []) ≡ true → k ≤ 4
  low_slot k h = grind (arith, nat_tests, h)

  -- a clash stays open no longer than a voice of the species reaches
  module _ (i : ℕ) where
    abbrev pub Come : ℕ → Type 0
    Come species = has_notes_after species i v (drop (i + 1) p) ≡ true

    pub notes_come : (species_in ex v == 1) ≡ false → 1 ≤ i % 8 → i + reach (species_in ex v) < length p
        → Come (species_in ex v)
    notes_come e1 within far = at (species_in ex v == 2) (species_in ex v == 3) (species_in ex v == 4) refl refl refl
      where
        Far : ℕ → Type 0
        Far species = i + reach species < length p

        at : (b c d : Bool) → (species_in ex v == 2) ≡ b → (species_in ex v == 3) ≡ c → (species_in ex v == 4) ≡ d
            → Come (species_in ex v)
        at true c d f g h =
            let two : species_in ex v ≡ 2 = eqb-true (species_in ex v) 2 f in
            let room : i + 4 < length p = subst Far two far in
            subst Come (sym two) (next_from_start p v i (4 * (i / 4) + 4) (omega arith) (omega (arith, room))
            (second_starts two (4 * (i / 4) + 4) (omega (arith, room)) (omega arith) (omega arith)))
        at false true d f g h =
            let three : species_in ex v ≡ 3 = eqb-true (species_in ex v) 3 g in
            let room : i + 4 < length p = subst Far three far in
            subst Come (sym three)
            (second_from_starts p v i (2 * (i / 2) + 2) (2 * (i / 2) + 4) (omega arith) (omega arith)
            (omega (arith, room))
            (third_starts three (2 * (i / 2) + 2) (omega (arith, room)) (omega arith) (omega arith))
            (third_starts three (2 * (i / 2) + 4) (omega (arith, room)) (omega arith) (omega arith)))
        at false false true f g h =
            let four : species_in ex v ≡ 4 = eqb-true (species_in ex v) 4 h in
            let room : i + 8 < length p = subst Far four far in
            subst Come (sym four) (next_from_start p v i (8 * ((i + 4) / 8) + 4) (omega arith) (omega (arith, room))
            (fourth_starts four (8 * ((i + 4) / 8) + 4) (omega (arith, room)) (omega arith)))
        at false false false f g h =
            let there : reach (species_in ex v) ≡ 19 = rw (f, g, h) refl in
            let room : i + 19 < length p = omega (arith, far, there) in
            let a = florid_starts_by_half e1 f g h (i / 8 + 1) (omega arith) (omega (arith, room, within)) in
            let b = florid_starts_by_half e1 f g h (i / 8 + 2) (omega arith) (omega (arith, room, within)) in
            let low : a.slot ≤ 4 = low_slot a.slot a.among in
            let lower : b.slot ≤ 4 = low_slot b.slot b.among in
            let j : ℕ = 8 * (i / 8 + 1) + a.slot in
            let k : ℕ = 8 * (i / 8 + 2) + b.slot in
            let after : i < j = omega arith in
            let later : j < k = omega (arith, low) in
            let here : k < length p = omega (arith, lower, room, within) in
            cond_both (has_ornaments (species_in ex v)) (is_some (second_next_onset i v (drop (i + 1) p)))
            (is_some (next_onset i v (drop (i + 1) p))) (λ t. t ≡ true)
            (λ _. second_from_starts p v i j k after later here a.start b.start)
            (λ _. next_from_start p v i j after (omega (arith, later, here)) a.start)
