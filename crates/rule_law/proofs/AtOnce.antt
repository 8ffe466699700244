-- What is settled at once is newly settled at the newest column alone, and read there before any
-- column comes behind it.
use Rattle.std.specs.Prelude.{◌≡◌, ℕ, ◌+◌, ◌<◌, ◌≤◌, Bool, true, false, not, ◌&&◌, nat_lt, List, [], ◌∷◌, ◌++◌, length, reverse, if◌then◌else◌, refl}
use Rattle.std.proofs.Common.{ap, sym, ◌∙◌, arith}
use Rattle.std.proofs.lemmas.Bool.Decides.{nat_tests}
use Rattle.std.proofs.lemmas.List.{length-append}
use Rattle.fux_grid.specs.declared.cell.Cell.{Cell}
use Rattle.fux_grid.specs.declared.exercise.Exercise.{Exercise}
use Rattle.rule_law.specs.Growth.{newly, AlwaysEnough}
use Rattle.rule_law.specs.Law.{below_from_test, first_true, reading-at_end, second_true, test_from_below}
use Rattle.rule_law.specs.Places.{Row, reading_of, settled_by}
use Rattle.rule_law.specs.Rulebooks.{IsAmong, RuleRow, TollRow, newly_breaks, newly_costs}

module _ (enough : Row Bool) (always : AlwaysEnough enough) (p : List (List Cell)) (col : List Cell) where
  settled_there : (s : List (List Cell)) (i : ℕ) → i < length s → settled_by enough s i ≡ true
  settled_there s i h = rw (test_from_below i (length s) h) (always _ _ _ _)

  -- it is newly settled at the newest column
  pub newly_there : newly (settled_by enough) p col (length p) ≡ true
  newly_there =
      let longer : length p < length (p ++ col ∷ []) = omega (arith, length-append p (col ∷ [])) in
      let past : nat_lt (length p) (length p) ≡ false = grind (arith, nat_tests) in
      ap (λ b. b && not (settled_by enough p (length p))) (settled_there (p ++ col ∷ []) (length p) longer)
      ∙ ap (λ b. not (b && reading_of enough p (length p))) past

  -- and nowhere else
  pub newly_alone : (i : ℕ) → newly (settled_by enough) p col i ≡ true → i ≡ length p
  newly_alone i h =
      let reached : i < length (p ++ col ∷ []) = below_from_test i (length (p ++ col ∷ []))
      (first_true _ _ (first_true (settled_by enough (p ++ col ∷ []) i) _ h)) in
      at (nat_lt i (length p)) refl reached
    where
      at : (b : Bool) → nat_lt i (length p) ≡ b → i < length (p ++ col ∷ []) → i ≡ length p
      at true e r = let no : not true ≡ true = sym (ap not (settled_there p i (below_from_test i (length p) e)))
          ∙ second_true (settled_by enough (p ++ col ∷ []) i) _ h in cc
      at false e r =
          let past : length p ≤ i = grind (arith, nat_tests, e) in
          omega (arith, past, r, length-append p (col ∷ []))

-- the newest column is the one place from itself on
pub own_place : (i n : ℕ) → i ≡ n → IsAmong n 1 i
own_place i n e = record { from = omega (arith, e); to = omega (arith, e) }

-- a place among none, or among the newest column alone, is the newest column
pub among_own : (stands : Bool) (i n : ℕ) → IsAmong n (if stands then 1 else 0) i → i ≡ n
among_own true i n h = omega (arith, h.from, h.to)
among_own false i n h = absurd (omega (arith, h.from, h.to))

-- and no place behind it
pub own_within : (stands : Bool) (i : ℕ) → i + (if stands then 1 else 0) ≤ i + 1
own_within true i = omega arith
own_within false i = omega arith

-- a break that is settled at once
module _ (it : RuleRow) (ex : Exercise) (voices : ℕ) (always : AlwaysEnough (it.enough ex voices))
    (p : List (List Cell)) (col : List Cell) where
  pub breaks_at_own_place : (i : ℕ) → newly_breaks it ex voices p col i ≡ true → IsAmong (length p) 1 i
  breaks_at_own_place i h = own_place i (length p) (newly_alone (it.enough ex voices) always p col i (first_true _ _ h))

  pub newly_breaks-at_once : newly_breaks it ex voices p col (length p)
      ≡ it.broken ex voices (length p) (reverse p) col []
  newly_breaks-at_once =
      ap (λ b. b && reading_of (it.broken ex voices) (p ++ col ∷ []) (length p))
      (newly_there (it.enough ex voices) always p col)
      ∙ reading-at_end (it.broken ex voices) p col

  pub newly_breaks-there : (i : ℕ) → i ≡ length p → newly_breaks it ex voices p col i
      ≡ reading_of (it.broken ex voices) (p ++ col ∷ []) i
  newly_breaks-there i e =
      ap (λ b. b && reading_of (it.broken ex voices) (p ++ col ∷ []) i)
      (ap (newly (settled_by (it.enough ex voices)) p col) e ∙ newly_there (it.enough ex voices) always p col)

  -- where it can't be broken, no place is left
  pub breaks_where_it_may : (may : Bool) → (may ≡ false → it.broken ex voices (length p) (reverse p) col [] ≡ false)
      → (i : ℕ) → newly_breaks it ex voices p col i ≡ true → IsAmong (length p) (if may then 1 else 0) i
  breaks_where_it_may true kept i h = breaks_at_own_place i h
  breaks_where_it_may false kept i h =
      let here : i ≡ length p = newly_alone (it.enough ex voices) always p col i (first_true _ _ h) in
      let broken : newly_breaks it ex voices p col (length p) ≡ true = sym (ap (newly_breaks it ex voices p col) here)
      ∙ h in
      let no : false ≡ true = sym (kept refl) ∙ sym newly_breaks-at_once ∙ broken in cc

-- a cost that is settled at once
module _ (it : TollRow) (ex : Exercise) (always : AlwaysEnough (it.enough ex)) (p : List (List Cell)) (col : List Cell)
  where
    pub costs_at_own_place : (i : ℕ) → 0 < newly_costs it ex p col i → IsAmong (length p) 1 i
    costs_at_own_place i h = at (newly (settled_by (it.enough ex)) p col i) refl h
      where
        at : (b : Bool) → newly (settled_by (it.enough ex)) p col i ≡ b
            → 0 < (if b then reading_of (it.cost ex) (p ++ col ∷ []) i else 0) → IsAmong (length p) 1 i
        at true e k = own_place i (length p) (newly_alone (it.enough ex) always p col i e)
        at false e k = absurd (omega (arith, k))

    pub newly_costs-at_once : newly_costs it ex p col (length p) ≡ it.cost ex (length p) (reverse p) col []
    newly_costs-at_once =
        ap (λ b. if b then reading_of (it.cost ex) (p ++ col ∷ []) (length p) else 0)
        (newly_there (it.enough ex) always p col)
        ∙ reading-at_end (it.cost ex) p col

    pub newly_costs-there : (i : ℕ) → i ≡ length p → newly_costs it ex p col i ≡ reading_of (it.cost ex) (p ++ col ∷ []) i
    newly_costs-there i e =
        ap (λ b. if b then reading_of (it.cost ex) (p ++ col ∷ []) i else 0)
        (ap (newly (settled_by (it.enough ex)) p col) e ∙ newly_there (it.enough ex) always p col)

    -- where it can't cost anything, no place is left
    pub costs_where_it_may : (may : Bool) → (may ≡ false → it.cost ex (length p) (reverse p) col [] ≡ 0)
        → (i : ℕ) → 0 < newly_costs it ex p col i → IsAmong (length p) (if may then 1 else 0) i
    costs_where_it_may true free i h = costs_at_own_place i h
    costs_where_it_may false free i h =
        let here : i ≡ length p = own_place-is i (length p) (costs_at_own_place i h) in
        let none : newly_costs it ex p col i ≡ 0 = ap (newly_costs it ex p col) here ∙ newly_costs-at_once ∙ free refl in
        absurd (omega (arith, none, h))
      where
        own_place-is : (i n : ℕ) → IsAmong n 1 i → i ≡ n
        own_place-is i n h = omega (arith, h.from, h.to)
