-- In an orderly list over a cantus that sounds, rests stand only before a voice's first note.
use Rattle.std.specs.Prelude.{◌≡◌, ℕ, ◌+◌, ◌*◌, ◌/◌, ◌<◌, ◌≤◌, ◌==◌, Bool, true, false, ◌&&◌, List, [], ◌∷◌, ◌++◌, All, Option, Some, None, IsTrue, option_map, slice_get, slice_index_or, if◌then◌else◌, length, drop, reverse, refl}
use Rattle.std.specs.List.{list_all}
use Rattle.std.proofs.Common.{ap, sym, ◌∙◌, subst, suc, inl, inr, arith}
use Rattle.std.proofs.lemmas.Bool.{and_parts, and_from, eqb-true, cases_Bool, cases_eq, cases_lt}
use Rattle.std.proofs.lemmas.List.{length-append, map-append, reverse-append, reverse-reverse, get_or_past, get_or_default}
use Rattle.fux_pitch.specs.declared.pitch.Pitch.{Pitch}
use Rattle.fux_grid.specs.declared.cell.Cell.{Cell}
use Rattle.fux_grid.specs.declared.cell.Cell.TheVariants.{Rest, Hold, Start}
use Rattle.fux_grid.specs.declared.exercise.Exercise.{Exercise}
use Rattle.fux_grid.specs.Cells.{cell_in}
use Rattle.fux_grid.specs.Columns.{line}
use Rattle.fux_grid.specs.Exercises.{IsFree, HasCantus, bar_of, slot_of, species_in, cantus_cell}
use Rattle.fux_grid.specs.Letters.{letters_of, bar_columns}
use Rattle.fux_grid.specs.Orderly.{IsOrderly, voice_shapes}
use Rattle.fux_grid.specs.Shapes.{letter_of, begins_shape}
use Rattle.fux_grid.proofs.OrderlyLemmas.{bar_columns-newest, orderly-fewer}
use Rattle.fux_grid.proofs.RestShapes.{all_rest, no_later_rest, rests_before_rest}
use Rattle.fux_grid.proofs.ShapeBeginnings.{letters_of-append}
use Rattle.rule_law.specs.Nearby.{AllRests, RestsFirst}
use Rattle.rule_law.specs.Terms.{sounds}

-- the cantus sounds in each column
abbrev pub CantusSounds : Exercise → List (List Cell) → Type 0
CantusSounds ex p = All (λ col. IsTrue (sounds (cell_in col ex.cantus_voice))) p

-- the line of a list whose first column is put apart
line-first : (v : ℕ) (col : List Cell) (p : List (List Cell)) → line v (reverse (col ∷ p)) ≡ line v (reverse p)
    ++ cell_in col v ∷ []
line-first v col p =
    ap (line v) (reverse-append (col ∷ []) p) ∙ map-append (λ col. cell_in col v) (reverse p) (col ∷ [])

-- rests, and one rest more
AllRests-append : (cells : List Cell) (c : Cell) → AllRests cells → c ≡ Rest → AllRests (cells ++ c ∷ [])
AllRests-append [] c r e = let P : Cell → Type 0 = λ c. AllRests (c ∷ []) in subst P (sym e) tt
AllRests-append (Rest ∷ cells) c r e = AllRests-append cells c r e
AllRests-append (Hold p ∷ cells) c r e = absurd r
AllRests-append (Start p ∷ cells) c r e = absurd r

rest_from_letter : (c : Cell) → (letter_of c == 82) ≡ true → c ≡ Rest
rest_from_letter Rest e = refl
rest_from_letter (Hold p) e = cc
rest_from_letter (Start p) e = cc

rests_from_letters : (v : ℕ) (p : List (List Cell)) → all_rest (letters_of v p) ≡ true → AllRests (line v (reverse p))
rests_from_letters v [] h = tt
rests_from_letters v (col ∷ p) h =
    let both = and_parts (letter_of (cell_in col v) == 82) (all_rest (letters_of v p)) h in
    let P : List Cell → Type 0 = λ cells. AllRests cells in
    subst P (sym (line-first v col p)) (AllRests-append (line v (reverse p)) (cell_in col v)
    (rests_from_letters v p both.1) (rest_from_letter (cell_in col v) both.0))

first_from_all : (cells : List Cell) → AllRests cells → RestsFirst cells
first_from_all [] r = tt
first_from_all (Rest ∷ cells) r = r
first_from_all (Hold p ∷ cells) r = absurd r
first_from_all (Start p ∷ cells) r = absurd r

-- where a free voice rests, it rests in all columns before
letters_at_end : (ex : Exercise) (p : List (List Cell)) (col : List Cell) (v : ℕ) → cell_in col v ≡ Rest
    → letters_of v (bar_columns (p ++ col ∷ []) (bar_of (length p))) ≡ letters_of v (drop (8 * (length p / 8)) p) ++ 82
    ∷ []
letters_at_end ex p col v e =
    ap (letters_of v) (bar_columns-newest p col)
    ∙ letters_of-append v (drop (8 * (length p / 8)) p) (col ∷ [])
    ∙ ap (λ c. letters_of v (drop (8 * (length p / 8)) p) ++ letter_of c ∷ []) e

rests_before : (ex : Exercise) (p : List (List Cell)) (col : List Cell) (v : ℕ) → IsFree ex v
    → IsOrderly ex (p ++ col ∷ []) → cell_in col v ≡ Rest → AllRests (line v (reverse p))
rests_before ex p col v free orderly e =
    let begins : begins_shape (voice_shapes ex v (bar_of (length p)))
    (letters_of v (drop (8 * (length p / 8)) p) ++ 82 ∷ []) ≡ true =
    sym (ap (begins_shape (voice_shapes ex v (bar_of (length p)))) (letters_at_end ex p col v e))
    ∙ orderly v (bar_of (length p)) free (omega arith, omega (arith, length-append p (col ∷ []))) in
    elim (cases_Bool (bar_of (length p) == 1)) [
      | inl first ↦
          let none : 8 * (length p / 8) ≡ 0 = in_first (length p) (eqb-true (bar_of (length p)) 1 first) in
          let P : ℕ → Type 0 = λ n. all_rest (letters_of v (drop n p)) ≡ true in
          rests_from_letters v p (subst P none
          (rests_before_rest (species_in ex v) (bar_of (length p)) ex.bars
          (letters_of v (drop (8 * (length p / 8)) p)) begins))
      | inr later ↦ absurd (no_later_rest (species_in ex v) (bar_of (length p)) ex.bars
          (letters_of v (drop (8 * (length p / 8)) p)) later begins)
    ]
  where
    in_first : (n : ℕ) → n / 8 + 1 ≡ 1 → 8 * (n / 8) ≡ 0
    in_first n h = omega arith

one_more : (c : Cell) (cells : List Cell) → (c ≡ Rest → AllRests cells) → RestsFirst cells → RestsFirst (c ∷ cells)
one_more Rest cells f r = f refl
one_more (Hold p) cells f r = r
one_more (Start p) cells f r = r

pub free_rests : (ex : Exercise) (v : ℕ) → IsFree ex v → (history : List (List Cell)) → IsOrderly ex (reverse history)
    → RestsFirst (line v history)
free_rests ex v free [] orderly = tt
free_rests ex v free (col ∷ history) orderly =
    let P : List (List Cell) → Type 0 = λ p. IsOrderly ex p in
    let whole : IsOrderly ex (reverse history ++ col ∷ []) = subst P (reverse-append (col ∷ []) history) orderly in
    let Q : List (List Cell) → Type 0 = λ p. AllRests (line v p) in
    one_more (cell_in col v) (line v history)
    (λ e. subst Q (reverse-reverse history) (rests_before ex (reverse history) col v free whole e))
    (free_rests ex v free history (orderly-fewer ex (reverse history) (col ∷ []) whole))

-- a voice that sounds in each column has no rest
sound_from_all : (cells : List Cell) → list_all sounds cells ≡ true → RestsFirst cells
sound_from_all [] h = tt
sound_from_all (Rest ∷ cells) h = cc
sound_from_all (Hold p ∷ cells) h = sound_from_all cells h
sound_from_all (Start p ∷ cells) h = sound_from_all cells h

sounds-append : (cells : List Cell) (c : Cell) → list_all sounds cells ≡ true → sounds c ≡ true
    → list_all sounds (cells ++ c ∷ []) ≡ true
sounds-append [] c h e = ap (λ b. b && true) e
sounds-append (d ∷ cells) c h e =
    let both = and_parts (sounds d) (list_all sounds cells) h in
    and_from (sounds d) (list_all sounds (cells ++ c ∷ [])) both.0 (sounds-append cells c both.1 e)

always_sounds : (v : ℕ) (p : List (List Cell)) → All (λ col. IsTrue (sounds (cell_in col v))) p
    → list_all sounds (line v (reverse p)) ≡ true
always_sounds v [] all = refl
always_sounds v (col ∷ p) all =
    let P : List Cell → Type 0 = λ cells. list_all sounds cells ≡ true in
    subst P (sym (line-first v col p)) (sounds-append (line v (reverse p)) (cell_in col v)
    (always_sounds v p (λ k d h. all (suc k) d (omega arith))) (all 0 col (omega arith)))

-- a voice that the columns lack rests throughout
absent_rests : (v voices : ℕ) (p : List (List Cell)) → voices ≤ v → All (λ col. length col ≡ voices) p
    → AllRests (line v (reverse p))
absent_rests v voices [] beyond all = tt
absent_rests v voices (col ∷ p) beyond all =
    let P : List Cell → Type 0 = λ cells. AllRests cells in
    let width : length col ≡ voices = all 0 col (omega arith) in
    subst P (sym (line-first v col p)) (AllRests-append (line v (reverse p)) (cell_in col v)
    (absent_rests v voices p beyond (λ k d h. all (suc k) d (omega arith))) (get_or_past col v Rest (omega arith)))

-- rests stand only before the first note of each voice of the exercise
pub orderly_rests : (ex : Exercise) (p : List (List Cell)) → CantusSounds ex p → IsOrderly ex p → (v : ℕ)
    → v < ex.voices → RestsFirst (line v (reverse p))
orderly_rests ex p cantus orderly v there =
    elim (cases_eq v ex.cantus_voice) [
      | inl same ↦
          let P : ℕ → Type 0 = λ w. RestsFirst (line w (reverse p)) in
          subst P (sym same) (sound_from_all (line ex.cantus_voice (reverse p))
          (always_sounds ex.cantus_voice p cantus))
      | inr other ↦
          let P : List (List Cell) → Type 0 = λ s. IsOrderly ex s in
          free_rests ex v (record { there = there; no_cantus = other }) (reverse p)
          (subst P (sym (reverse-reverse p)) orderly)
    ]

-- and of every voice, where the columns have the exercise's voices
pub orderly_rests_in_all : (ex : Exercise) (p : List (List Cell)) → All (λ col. length col ≡ ex.voices) p
    → CantusSounds ex p → IsOrderly ex p → (v : ℕ) → RestsFirst (line v (reverse p))
orderly_rests_in_all ex p full cantus orderly v =
    elim (cases_lt v ex.voices) [
      | inl there ↦ orderly_rests ex p cantus orderly v there
      | inr beyond ↦ first_from_all (line v (reverse p)) (absent_rests v ex.voices p beyond full)
    ]

-- a list that has the cantus has it sound in each column
cell_sounds : (i : ℕ) (pitch : Option Pitch) (c : Cell) → option_map (cantus_cell i) pitch ≡ Some c → sounds c ≡ true
cell_sounds i None c e = cc
cell_sounds i (Some p) c e =
    let P : Cell → Type 0 = λ c. sounds c ≡ true in subst P (the_cell e) (note (slot_of i == 0))
  where
    the_cell : {d : Cell} → Some d ≡ Some c → d ≡ c
    the_cell h = cc

    note : (b : Bool) → sounds (if b then Start p else Hold p) ≡ true
    note true = refl
    note false = refl

pub cantus_sounds : (ex : Exercise) (p : List (List Cell)) → HasCantus ex p → CantusSounds ex p
cantus_sounds ex p cantus k d here =
    let P : List Cell → Type 0 = λ col. sounds (cell_in col ex.cantus_voice) ≡ true in
    subst P (get_or_default p k [] d here)
    (cell_sounds k (slice_get ex.cantus (k / 8)) (cell_in (slice_index_or p k []) ex.cantus_voice) (cantus k here))
