-- Where a bound of all leaves is known, what a search finds under a cap is found of the tree itself
-- (`first_from_capped`), and where it finds nothing all leaves are above the cap
-- (`bounds_from_capped`).
use Rattle.std.proofs.Common.{◌≡◌, ℕ, ◌+◌, ◌≤◌, List, Option, Some, max, ap, ◌∙◌, subst, ⊎_elim, arith}
use Rattle.std.proofs.lemmas.Bool.{cases_lt}
use Rattle.tree_search.specs.Answer.{IsLeaf, IsFirstLeast, HasNoLeaf, BoundsLeaves}
use Rattle.floor_graphs.specs.Capped.{capped, capped_parts, capped-within}

module _ (live : List ℕ → Option ℕ) (height low high : ℕ) where
  -- a leaf of the capped tree is one of the tree, within the cap; its value is raised to the bound
  pub leaf_from_capped : (path : List ℕ) (value : ℕ) → IsLeaf (capped live low high) height path value
      → (own : ℕ) × (IsLeaf live height path own × ((own ≤ high) × (value ≡ max low own)))
  leaf_from_capped path value leaf =
      let parts = capped_parts low high (live path) value leaf.1 in
      (parts.own, ((leaf.0, parts.is_own), (parts.within, parts.raised_is)))

  -- a leaf of the tree whose value is from the bound up to the cap is one of the capped tree, of
  -- the same value
  pub leaf_to_capped : (path : List ℕ) (value : ℕ) → IsLeaf live height path value → low ≤ value → value ≤ high
      → IsLeaf (capped live low high) height path value
  leaf_to_capped path value leaf least most =
      let same : max low value ≡ value = omega (arith, least) in
      (leaf.0, capped-within low high (live path) value leaf.1 most ∙ ap (λ n. Some n) same)

  pub first_from_capped : BoundsLeaves live height low → (path : List ℕ) (value : ℕ)
      → IsFirstLeast (capped live low high) height path value → IsFirstLeast live height path value
  first_from_capped bound path value h =
      let own = leaf_from_capped path value h.leaf in
      let same : own.0 ≡ value = omega (arith, own.1.1.1, bound path own.0 own.1.0) in
      let within : value ≤ high = omega (arith, same, own.1.1.0) in
      record {
        leaf = subst (λ (n : ℕ). IsLeaf live height path n) same own.1.0;
        least = λ other its_value leaf. ⊎_elim
            (λ above. omega (arith, above, within))
            (λ below.
            h.least other its_value
            (leaf_to_capped other its_value leaf (bound other its_value leaf) (omega (arith, below))))
            (cases_lt high its_value);
        first = λ other leaf. h.first other (leaf_to_capped other value leaf (bound other value leaf) within);
      }

  pub bounds_from_capped : BoundsLeaves live height low → HasNoLeaf (capped live low high) height
      → BoundsLeaves live height (high + 1)
  bounds_from_capped bound none path value leaf = ⊎_elim
      (λ above. omega (arith, above))
      (λ below.
      absurd (none path value (leaf_to_capped path value leaf (bound path value leaf) (omega (arith, below)))))
      (cases_lt high value)
