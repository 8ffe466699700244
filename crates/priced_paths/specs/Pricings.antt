-- What a tree's pricing owes.
use Rattle.std.specs.Prelude.{◌≡◌, ℕ, ◌+◌, ◌*◌, ◌<◌, ◌≤◌, ◌++◌, ◌∷◌, [], List, Option, Some, IsSome, Bool, true, length}
use Rattle.tree_search.specs.Answer.{IsLeaf}
use Rattle.floor_graphs.specs.Graphs.{Rate}
use Rattle.priced_paths.specs.Tolls.{charged_to, has_reached}

-- the node is at a live path
pub record IsLiveNode (is_at : List ℕ → Type 0) (live : List ℕ → Option ℕ) : Type 0 where
  pub path : List ℕ
  pub at : is_at path
  pub is_live : IsSome (live path)

-- a child of a path is a step from what is kept of the path to what is kept of the child, and
-- settles no less than the step
pub record IsPricedStep {Kept : Type 0} (kept : List ℕ → Kept) (settled : List ℕ → ℕ) (breadth : ℕ → ℕ)
    (step : ℕ → Kept → ℕ → Option (Kept × ℕ)) (path : List ℕ) (child : ℕ) : Type 0 where
  pub within : child < breadth (length path)
  pub cost : ℕ
  pub is_step : step (length path) (kept path) child ≡ Some (kept (path ++ child ∷ []), cost)
  pub paid : settled path + cost ≤ settled (path ++ child ∷ [])

-- a leaf is of a case: each step of its path may be made there, one of them does what is asked for,
-- and what it has settled, at the case's rate, with what it is charged is no more than its value
-- with the debt
pub record IsOfCase (toll : ℕ → ℕ → Option ℕ) (reaches : ℕ → ℕ → Bool) (rate : Rate) (settled : ℕ) (path : List ℕ)
    (value : ℕ) : Type 0 where
  pub charged : ℕ
  pub is_charged : charged_to toll path ≡ Some charged
  pub reached : has_reached reaches path ≡ true
  pub due : rate.scale * settled + charged ≤ rate.scale * value + rate.debt

-- nothing is settled at first; each step on the way to a leaf is one from what is kept; and each
-- leaf is of a case
pub record IsPriced {Kept : Type 0} (live : List ℕ → Option ℕ) (height : ℕ) (kept : List ℕ → Kept)
    (settled : List ℕ → ℕ) (breadth : ℕ → ℕ) (step : ℕ → Kept → ℕ → Option (Kept × ℕ))
    (toll : ℕ → ℕ → ℕ → Option ℕ) (reaches : ℕ → ℕ → ℕ → Bool) (count : ℕ) (rate : ℕ → Rate) : Type 0 where
  pub start : settled [] ≡ 0
  pub steps : (path rest : List ℕ) (child value : ℕ) → IsLeaf live height ((path ++ child ∷ []) ++ rest) value
      → IsPricedStep kept settled breadth step path child
  pub leaves : (path : List ℕ) (value : ℕ) → IsLeaf live height path value
      → (case : ℕ) × (case < count) × IsOfCase (toll case) (reaches case) (rate case) (settled path) path value
