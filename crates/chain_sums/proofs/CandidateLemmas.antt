-- The candidates that are tried are enough: no later one has a lesser sum (`tried_are_enough`).
use Rattle.std.proofs.Common.{◌≡◌, ◌⊎◌, inl, inr, ℕ, ◌+◌, ◌<◌, ◌≤◌, List, [], ◌∷◌, ◌++◌, length, get_or, Option, Some, ap, sym, ◌∙◌, subst, arith}
use Rattle.std.specs.Prelude.{IsSomeAnd, ◌↔◌}
use Rattle.std.specs.List.{Contains}
use Rattle.std.proofs.lemmas.Bool.{cases_lt}
use Rattle.std.proofs.lemmas.List.{get_or_default}
use Rattle.std.proofs.lemmas.List.Elements.{All-push, Contains-append_left, Contains-push}
use Rattle.std.specs.List.Sorted.{IsPermutation}
use Rattle.std.proofs.lemmas.List.Sorted.{All-permutation, Contains-permutation}
use Rattle.fux_grid.specs.declared.cell.Cell.{Cell}
use Rattle.chain_sums.specs.declared.candidates.Candidate.{Candidate}
use Rattle.chain_sums.specs.Candidates.{AreCandidates, GoByBounds, HasBound}
use Rattle.chain_sums.specs.Chains.{Chains, IsKnown, IsLeastOf}
use Rattle.chain_sums.specs.Rows.{IsSumAt, IsSumWithin}
use Rattle.chain_sums.specs.Sums.{lesser}
use Rattle.chain_sums.proofs.LeastLemmas.{at_most, below_or_at, least_more}

-- ---- one column more

has_bound_later : (found more : List Candidate) (k sum : ℕ) → HasBound found k sum → HasBound (found ++ more) k sum
has_bound_later found more k sum h = record {
  bound = h.bound;
  own = h.own;
  one = Contains-append_left found more
      (record { bound = h.bound; number = k; own = h.own }) h.one;
  low = h.low;
}

module _ (c : Chains) (own : List Cell → Option ℕ) (i : ℕ) (row : List (Option ℕ)) where
  pub candidates_none : AreCandidates c own i row 0 []
  candidates_none = record {
    within = λ k d h. absurd (omega (arith, h));
    known = λ k d h. absurd (omega (arith, h));
    enough = λ before k sum h s. absurd (omega (arith, h));
  }

  module _ (count : ℕ) (found : List Candidate) (are : AreCandidates c own i row count found) where
    -- a candidate for the next column
    pub candidates_more : (next : Candidate) → next.number ≡ count → IsKnown (own (get_or (c.menu i) count [])) next.own
        → ((before : Option (List Cell)) (x : ℕ) → IsSumAt c i before row count x → next.bound ≤ x)
        → AreCandidates c own i row (count + 1) (found ++ next ∷ [])
    candidates_more next here is low = record {
      within = All-push (λ e. e.number < count + 1) found next (λ k d l. let n = are.within k d l in omega (arith, n))
          (omega (arith, here));
      known = All-push (λ e. IsKnown (own (get_or (c.menu i) e.number [])) e.own) found next are.known
          (subst (λ (k : ℕ). IsKnown (own (get_or (c.menu i) k [])) next.own) (sym here) is);
      enough = λ before k sum h s. enough before k sum (below_or_at k count h) s;
    }
      where
        one : record { bound = next.bound; number = count; own = next.own } ≡ next
        one = ap (λ (n : ℕ). let e : Candidate = record { bound = next.bound; number = n; own = next.own } in e)
            (sym here)

        enough : (before : Option (List Cell)) (k sum : ℕ) → (k < count) ⊎ (k ≡ count) → IsSumAt c i before row k sum
            → HasBound (found ++ next ∷ []) k sum
        enough before k sum (inl l) s = has_bound_later found (next ∷ []) k sum (are.enough before k sum l s)
        enough before k sum (inr e) s =
            subst (λ (j : ℕ). HasBound (found ++ next ∷ []) j sum) (sym e)
            (record {
              bound = next.bound;
              own = next.own;
              one = subst (Contains (found ++ next ∷ [])) (sym one) (Contains-push found next);
              low = low before sum (subst (λ (j : ℕ). IsSumAt c i before row j sum) e s);
            })

    pub candidates_skip : ((before : Option (List Cell)) (x : ℕ) → IsSumAt c i before row count x → ⊥)
        → AreCandidates c own i row (count + 1) found
    candidates_skip no_sum = record {
      within = λ k d h. omega (arith, are.within k d h);
      known = are.known;
      enough = λ before k sum h s. enough before k sum (below_or_at k count h) s;
    }
      where
        enough : (before : Option (List Cell)) (k sum : ℕ) → (k < count) ⊎ (k ≡ count) → IsSumAt c i before row k sum
            → HasBound found k sum
        enough before k sum (inl l) s = are.enough before k sum l s
        enough before k sum (inr e) s = absurd (no_sum before sum (subst (λ (j : ℕ). IsSumAt c i before row j sum) e s))

    pub candidates_sorted : (sorted : List Candidate) → IsPermutation found sorted
        → AreCandidates c own i row count sorted
    candidates_sorted sorted moved = record {
      within = All-permutation (λ (e : Candidate). e.number < count) found sorted moved are.within;
      known = All-permutation (λ (e : Candidate). IsKnown (own (get_or (c.menu i) e.number [])) e.own) found sorted
          moved are.known;
      enough = λ before k sum h s. enough k sum (are.enough before k sum h s);
    }
      where
        enough : (k sum : ℕ) → HasBound found k sum → HasBound sorted k sum
        enough k sum h = record {
          bound = h.bound;
          own = h.own;
          one = Contains-permutation found sorted (record { bound = h.bound; number = k; own = h.own }) moved h.one;
          low = h.low;
        }

-- ---- what is tried

-- one of the first so many candidates has the sum
abbrev pub IsSumTried : Chains → ℕ → Option (List Cell) → List (Option ℕ) → List Candidate → ℕ → ℕ → Type 0
IsSumTried c i before row candidates count sum =
    (e : ℕ) × (e < count) × ((d : Candidate) → IsSumAt c i before row (get_or candidates e d).number sum)

pub tried_more : (c : Chains) (i : ℕ) (before : Option (List Cell)) (row : List (Option ℕ))
    (candidates : List Candidate) (count : ℕ) (candidate : Candidate) (least other : Option ℕ)
    → count < length candidates → candidate ≡ get_or candidates count candidate
    → IsLeastOf (IsSumTried c i before row candidates count) least
    → ((x : ℕ) → (other ≡ Some x) ↔ IsSumAt c i before row candidate.number x)
    → IsLeastOf (IsSumTried c i before row candidates (count + 1)) (lesser least other)
tried_more c i before row candidates count candidate least other within here old is =
    least_more (IsSumTried c i before row candidates count) (IsSumAt c i before row candidate.number)
    (IsSumTried c i before row candidates (count + 1)) least other old is kept tried cases
  where
    same : (d : Candidate) → get_or candidates count d ≡ candidate
    same d = get_or_default candidates count d candidate within ∙ sym here

    kept : (x : ℕ) → IsSumTried c i before row candidates count x → IsSumTried c i before row candidates (count + 1) x
    kept x (e, h, s) = (e, omega (arith, h), s)

    tried : (x : ℕ) → IsSumAt c i before row candidate.number x → IsSumTried c i before row candidates (count + 1) x
    tried x s = (count, omega arith, λ d. subst (λ (e : Candidate). IsSumAt c i before row e.number x) (sym (same d)) s)

    cases : (x : ℕ) → IsSumTried c i before row candidates (count + 1) x → IsSumTried c i before row candidates count x
        ⊎ IsSumAt c i before row candidate.number x
    cases x (e, h, s) = by (below_or_at e count h)
      where
        by : (e < count) ⊎ (e ≡ count) → IsSumTried c i before row candidates count x
            ⊎ IsSumAt c i before row candidate.number x
        by (inl l) = inl (e, l, s)
        by (inr f) =
            inr (subst (λ (k : Candidate). IsSumAt c i before row k.number x)
            (ap (λ n. get_or candidates n candidate) f ∙ same candidate) (s candidate))

-- where no candidate from some place on has a lesser sum, those before it are enough
pub tried_are_enough : (c : Chains) (own : List Cell → Option ℕ) (i : ℕ) (before : Option (List Cell))
    (row : List (Option ℕ)) (width : ℕ) (candidates : List Candidate) (count : ℕ) (least : Option ℕ)
    → count ≤ length candidates → AreCandidates c own i row width candidates
    → IsLeastOf (IsSumTried c i before row candidates count) least
    → ((e : ℕ) (d : Candidate) → count ≤ e → e < length candidates
    → IsSomeAnd least (λ y. y ≤ (get_or candidates e d).bound))
    → IsLeastOf (IsSumWithin c i before row width) least
tried_are_enough c own i before row width candidates count least short are old later =
    record { reached = λ x e. reached x (old.reached x e); lowest = lowest }
  where
    reached : (x : ℕ) → IsSumTried c i before row candidates count x → IsSumWithin c i before row width x
    reached x (e, h, s) = let d : Candidate = record { bound = 0; number = 0; own = 0 } in
        ((get_or candidates e d).number, are.within e d (omega (arith, h)), s d)

    lowest : (x : ℕ) → IsSumWithin c i before row width x → IsSomeAnd least (λ y. y ≤ x)
    lowest x (k, h, s) = with_bound (are.enough before k x h s)
      where
        with_bound : HasBound candidates k x → IsSomeAnd least (λ y. y ≤ x)
        with_bound b = at b.one
          where
            one : Candidate
            one = record { bound = b.bound; number = k; own = b.own }

            at : Contains candidates one → IsSomeAnd least (λ y. y ≤ x)
            at (e, l, f) = by (cases_lt e count)
              where
                by : (e < count) ⊎ (count ≤ e) → IsSomeAnd least (λ y. y ≤ x)
                by (inl m) =
                    old.lowest x (
                      e,
                      m,
                      λ d. subst (λ (g : Candidate). IsSumAt c i before row g.number x)
                          (sym (get_or_default candidates e d one l ∙ f)) s,
                    )
                by (inr m) =
                    at_most least (get_or candidates e one).bound x
                    (let g : (get_or candidates e one).bound ≡ b.bound = ap (λ (g : Candidate). g.bound) f in
                    omega (arith, b.low)) (later e one m l)

-- where a sum is at most the bound of one candidate, no later one has a lesser sum
pub later_no_less : (candidates : List Candidate) (count : ℕ) (candidate : Candidate) (least : Option ℕ)
    → GoByBounds candidates → count < length candidates
    → candidate ≡ get_or candidates count candidate → IsSomeAnd least (λ y. y ≤ candidate.bound)
    → (e : ℕ) (d : Candidate) → count ≤ e → e < length candidates
    → IsSomeAnd least (λ y. y ≤ (get_or candidates e d).bound)
later_no_less candidates count candidate least order within here reached e d h l =
    let same : get_or candidates count d ≡ candidate = get_or_default candidates count d candidate within ∙ sym here in
    let bounds : (get_or candidates count d).bound ≡ candidate.bound = ap (λ (g : Candidate). g.bound) same in
    at_most least candidate.bound (get_or candidates e d).bound (omega (arith, order count e d h l, bounds)) reached
