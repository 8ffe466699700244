-- Within a bar only voices of other species than 1 start notes, at slots that their shapes have
-- (`starter_settles`), so at columns that may settle S15 or S27 (`settles_in`).
use Rattle.std.specs.Prelude.{◌≡◌, ◌≢◌, ℕ, ◌%◌, ◌<◌, ◌+◌, ◌≤◌, ◌==◌, ◌||◌, Bool, true, false, not, List, ◌∷◌, ◌++◌, codes, [], Contains, Option, Some, None, is_some, option_map, slice_get, slice_index_or, ◌/◌, if◌then◌else◌, refl}
use Rattle.std.proofs.Common.{ap, sym, ◌∙◌, subst, inl, inr, arith}
use Rattle.std.proofs.lemmas.Bool.{agree_below, agree_below_at, both_ways, cases_Bool, cases_lt, cond_both, eqb-true, ne_eqb}
use Rattle.std.proofs.lemmas.Bool.Decides.{nat_tests}
use Rattle.std.proofs.lemmas.List.{get_or_past}
use Rattle.std.specs.Option.{option_map_or, option_to_list}
use Rattle.fux_pitch.specs.declared.pitch.Pitch.{Pitch}
use Rattle.fux_grid.specs.declared.cell.Cell.{Cell}
use Rattle.fux_grid.specs.declared.cell.Cell.TheVariants.{Rest, Hold, Start}
use Rattle.fux_grid.specs.declared.exercise.Exercise.{Exercise}
use Rattle.fux_grid.specs.Cells.{cell_in}
use Rattle.fux_grid.specs.Exercises.{IsFree, bar_of, cantus_cell, is_mixed, slot_of, species_in}
use Rattle.fux_grid.specs.Menus.{IsInMenu, cells_at, pool_of}
use Rattle.fux_grid.specs.Shapes.{allows, fifth_shapes, florid_starts, fourth_shapes, second_shapes, shapes_in, third_shapes, whole_note}
use Rattle.fux_grid.proofs.CellLemmas.{cells_at-cantus, cells_at-given}
use Rattle.fux_grid.proofs.Combinations.{Contains-cons_cases}
use Rattle.rule_law.specs.Terms.{starts}
use Rattle.rule_law.specs.Voices.{is_free}
use Rattle.rule_law.proofs.NextPitch.{start_allowed}
use Rattle.dissonance_rules.specs.Book.{may_settle, may_settle_in, passing_reach, reach}

-- ---- the slots at which the shapes of a species start notes

from_test : (a b : Bool) → (not a || b) ≡ true → a ≡ true → b ≡ true
from_test true b h e = h
from_test false b h e = cc

-- each slot where some shape has a start passes the test
abbrev start_at_these : (ℕ → Bool) → List (List ℕ) → Bool
start_at_these test shapes = agree_below (λ s. not (allows shapes s 83) || test s) (λ s. true) 8

passes_there : (test : ℕ → Bool) (shapes : List (List ℕ)) (slot : ℕ) → start_at_these test shapes ≡ true → slot < 8
    → allows shapes slot 83 ≡ true → test slot ≡ true
passes_there test shapes slot all short h =
    from_test (allows shapes slot 83) (test slot)
    (agree_below_at (λ s. not (allows shapes s 83) || test s) (λ s. true) 8 slot all short) h

second_slots : (bar : ℕ) → start_at_these (λ s. s % 4 == 0) (second_shapes bar) ≡ true
second_slots bar = cond_both (bar == 1) _ _
    (λ others. start_at_these (λ s. s % 4 == 0) (codes "SHHHSHHH" ∷ others) ≡ true) (λ _. refl) (λ _. refl)

third_slots : (bar : ℕ) → start_at_these (λ s. s % 2 == 0) (third_shapes bar) ≡ true
third_slots bar = cond_both (bar == 1) _ _
    (λ others. start_at_these (λ s. s % 2 == 0) (codes "SHSHSHSH" ∷ others) ≡ true) (λ _. refl) (λ _. refl)

fourth_slots : (bar : ℕ) → start_at_these (λ s. s % 4 == 0) (fourth_shapes bar) ≡ true
fourth_slots bar =
    cond_both (bar == 1) _ _ (λ shapes. start_at_these (λ s. s % 4 == 0) shapes ≡ true) (λ _. refl) (λ _. refl)

fifth_slots : (bar : ℕ) → start_at_these (λ s. not (s % 4 == 1)) (fifth_shapes bar) ≡ true
fifth_slots bar = cond_both (bar == 1) _ _
    (λ others. start_at_these (λ s. not (s % 4 == 1)) (florid_starts ++ others) ≡ true) (λ _. refl) (λ _. refl)

-- a whole note starts at slot 0
at_start : (slot : ℕ) → slot < 8 → allows whole_note slot 83 ≡ true → slot ≡ 0
at_start slot short h = eqb-true slot 0 (passes_there (λ s. s == 0) whole_note slot refl short h)

-- at the beginning of a bar each species may start a note
pub settles_at_bar : (species i : ℕ) → (species == 1) ≡ false → i % 8 ≡ 0 → may_settle species i ≡ true
settles_at_bar species i other bar = at ((species == 2) || (species == 4)) (species == 3) refl refl
  where
    four : i % 4 ≡ 0
    four = omega (arith, bar)

    two : i % 2 ≡ 0
    two = omega (arith, bar)

    at : (a b : Bool) → ((species == 2) || (species == 4)) ≡ a → (species == 3) ≡ b → may_settle species i ≡ true
    at true b e f = rw (other, e, four) refl
    at false true e f = rw (other, e, f, two) refl
    at false false e f = rw (other, e, f, four) refl

allowed_settles : (species bar bars slot : ℕ) → (species == 1) ≡ false → slot < 8
    → allows (shapes_in species bar bars) slot 83 ≡ true → may_settle species slot ≡ true
allowed_settles species bar bars slot other short =
    at (bar == bars) (species == 2) (species == 3) (species == 4) refl refl refl refl
  where
    in_last : allows whole_note slot 83 ≡ true → may_settle species slot ≡ true
    in_last h = settles_at_bar species slot other (omega (arith, at_start slot short h))

    at : (l b c d : Bool) → (bar == bars) ≡ l → (species == 2) ≡ b → (species == 3) ≡ c → (species == 4) ≡ d
        → allows (shapes_in species bar bars) slot 83 ≡ true → may_settle species slot ≡ true
    at true b c d k e f g =
        let last : shapes_in species bar bars ≡ whole_note = rw (other, k) refl in
        λ h. in_last (sym (ap (λ shapes. allows shapes slot 83) last) ∙ h)
    at false true c d k e f g =
        rw (other, k, e) (passes_there (λ s. s % 4 == 0) (second_shapes bar) slot (second_slots bar) short)
    at false false true true k e f g = absurd (not_both (eqb-true species 3 f) (eqb-true species 4 g))
      where
        not_both : species ≡ 3 → species ≡ 4 → ⊥
        not_both f g = omega arith
    at false false true false k e f g =
        rw (other, k, e, f, g) (passes_there (λ s. s % 2 == 0) (third_shapes bar) slot (third_slots bar) short)
    at false false false true k e f g =
        rw (other, k, e, f, g) (passes_there (λ s. s % 4 == 0) (fourth_shapes bar) slot (fourth_slots bar) short)
    at false false false false k e f g =
        rw (other, k, e, f, g) (passes_there (λ s. not (s % 4 == 1)) (fifth_shapes bar) slot (fifth_slots bar) short)

settles_by_slot : (species i : ℕ) → may_settle species (slot_of i) ≡ true → may_settle species i ≡ true
settles_by_slot species i h = rw (four, two) h
  where
    four : i % 4 ≡ slot_of i % 4
    four = omega arith

    two : i % 2 ≡ slot_of i % 2
    two = omega arith

-- ---- what a voice of another species than 1 says of its exercise

-- a voice of whatever species may start a note at none but these columns
may_settle-some : (species i : ℕ) → may_settle species i ≡ true → not (i % 4 == 1) ≡ true
may_settle-some species i =
    at (species == 1) ((species == 2) || (species == 4)) (species == 3)
  where
    fourth : i % 4 ≡ 0 → not (i % 4 == 1) ≡ true
    fourth e = ap not (ne_eqb (i % 4) 1 (λ f. omega (arith, e, f)))

    second : i % 2 ≡ 0 → not (i % 4 == 1) ≡ true
    second e = ap not (ne_eqb (i % 4) 1 (λ f. omega (arith, e, f)))

    at : (a b c : Bool)
        → (if a then false else (if b then i % 4 == 0 else (if c then i % 2 == 0 else not (i % 4 == 1)))) ≡ true
        → not (i % 4 == 1) ≡ true
    at true b c h = cc
    at false true c h = fourth (eqb-true (i % 4) 0 h)
    at false false true h = second (eqb-true (i % 2) 0 h)
    at false false false h = h

-- and S15 stays open for it no longer than this
pub reach-bound : (species : ℕ) → reach species ≤ 19
reach-bound species = at ((species == 2) || (species == 3)) (species == 4)
  where
    at : (a b : Bool) → (if a then 4 else (if b then 8 else 19)) ≤ 19
    at true b = omega arith
    at false true = omega arith
    at false false = omega arith

pub passing_reach-bound : (ex : Exercise) → passing_reach ex ≤ 19
passing_reach-bound ex = at (is_mixed ex)
  where
    at : (b : Bool) → (if b then 19 else reach ex.species) ≤ 19
    at true = omega arith
    at false = reach-bound ex.species

module _ (ex : Exercise) (v : ℕ) (other : (species_in ex v == 1) ≡ false) where
  -- where one species is given, the voice has it
  given_species : is_mixed ex ≡ false → species_in ex v ≡ ex.species
  given_species one = at ex.mixed one other
    where
      given : ℕ
      given = if v == ex.species_voice then ex.species else 1

      pick : (b : Bool) → ((if b then ex.species else 1) == 1) ≡ false → (if b then ex.species else 1) ≡ ex.species
      pick true h = refl
      pick false h = cc

      at : (mixed : Option (List ℕ)) → is_some mixed ≡ false
          → (option_map_or (λ species. slice_index_or species v 1) mixed given == 1) ≡ false
          → option_map_or (λ species. slice_index_or species v 1) mixed given ≡ ex.species
      at None e h = pick (v == ex.species_voice) h
      at (Some species) e h = cc

  pub settles_in : (i : ℕ) → may_settle (species_in ex v) i ≡ true → may_settle_in ex i ≡ true
  settles_in i h = at (is_mixed ex) refl
    where
      at : (b : Bool) → is_mixed ex ≡ b → (if b then not (i % 4 == 1) else may_settle ex.species i) ≡ true
      at true e = may_settle-some (species_in ex v) i h
      at false e = sym (ap (λ n. may_settle n i) (given_species e)) ∙ h

  pub reaches_in : (n i : ℕ) → n ≤ i + reach (species_in ex v) → n ≤ i + passing_reach ex
  reaches_in n i h = at (is_mixed ex) refl
    where
      at : (b : Bool) → is_mixed ex ≡ b → n ≤ i + (if b then 19 else reach ex.species)
      at true e = omega (arith, h, reach-bound (species_in ex v))
      at false e = let P : ℕ → Type 0 = λ s. n ≤ i + reach s in subst P (given_species e) h

-- ---- a start in a column of a menu

-- within a bar the cantus holds its note
pub cantus_holds : (ex : Exercise) (v i : ℕ) (col : List Cell) → v ≡ ex.cantus_voice → IsInMenu ex i col → slot_of i ≢ 0
    → starts (cell_in col v) ≡ false
cantus_holds ex v i col same menu slot =
    elim (cases_lt v ex.voices) [
      | inl here ↦
          let P : List Cell → Type 0 = λ cells. Contains cells (cell_in col v) in
          at (slice_get ex.cantus (i / 8)) (cell_in col v) (subst P (cells_at-cantus ex i v same) (menu.cells v here))
      | inr beyond ↦ ap starts (get_or_past col v Rest (omega (arith, menu.full, beyond)))
    ]
  where
    held : (p : Pitch) → starts (cantus_cell i p) ≡ false
    held p = ap (λ b. starts (if b then Start p else Hold p)) (ne_eqb (slot_of i) 0 slot)

    at : (o : Option Pitch) (c : Cell) → Contains (option_to_list (option_map (cantus_cell i) o)) c → starts c ≡ false
    at None c h = absurd (omega (arith, h.1))
    at (Some p) c h =
        elim (Contains-cons_cases (cantus_cell i p) [] c h) [
          | inl one ↦ sym (ap starts one) ∙ held p
          | inr none ↦ absurd (omega (arith, none.1))
        ]

module _ (ex : Exercise) (v i : ℕ) (col : List Cell) (menu : IsInMenu ex i col) (free : is_free ex v ≡ true)
    (start : starts (cell_in col v) ≡ true) where
  no_cantus : v ≢ ex.cantus_voice
  no_cantus e = grind (arith, nat_tests, free, e)

  there : v < ex.voices
  there =
      elim (cases_lt v ex.voices) [
        | inl here ↦ here
        | inr beyond ↦ absurd (both_ways (starts (cell_in col v))
            (ap starts (get_or_past col v Rest (omega (arith, menu.full, beyond)))) start)
      ]

  pub starter_is_free : IsFree ex v
  starter_is_free = record { there = there; no_cantus = no_cantus }

  allowed : allows (shapes_in (species_in ex v) (bar_of i) ex.bars) (slot_of i) 83 ≡ true
  allowed = at (cell_in col v) start (menu.cells v there)
    where
      at : (c : Cell) → starts c ≡ true → Contains (cells_at ex i v) c
          → allows (shapes_in (species_in ex v) (bar_of i) ex.bars) (slot_of i) 83 ≡ true
      at Rest e h = cc
      at (Hold p) e h = cc
      at (Start p) e h =
          start_allowed (shapes_in (species_in ex v) (bar_of i) ex.bars) (slot_of i) (pool_of ex v (bar_of i)) p
          (cells_at-given ex i v (Start p) no_cantus h).0

  -- within a bar it isn't of a voice of species 1
  pub starter_has_species : slot_of i ≢ 0 → (species_in ex v == 1) ≡ false
  starter_has_species slot =
      elim (cases_Bool (species_in ex v == 1)) [
        | inr e ↦ e
        | inl e ↦
            let P : ℕ → Type 0 = λ n. allows (shapes_in n (bar_of i) ex.bars) (slot_of i) 83 ≡ true in
            absurd (slot (at_start (slot_of i) (omega arith) (subst P (eqb-true (species_in ex v) 1 e) allowed)))
      ]

  -- and one of another species may start one there
  pub starter_settles : (species_in ex v == 1) ≡ false → may_settle (species_in ex v) i ≡ true
  starter_settles other =
      settles_by_slot (species_in ex v) i (allowed_settles (species_in ex v) (bar_of i) ex.bars (slot_of i) other
      (omega arith) allowed)
