-- The states of what is kept, and when their web is too large.
use Rattle.std.specs.Prelude.{◌≡◌, ◌≢◌, ◌⊎◌, ℕ, zero, suc, ◌+◌, ◌<◌, nat_lt, List, [], ◌∷◌, Option, Some, None, Bool, is_some, option_and_then, length, All, AllPairs, sum_by, if◌then◌else◌}
use Rattle.std.specs.Option.{option_map}
use Rattle.priced_paths.specs.declared.states.State.{State}
use Rattle.priced_paths.specs.declared.web.TheConstants.{MOST_EDGES, MOST_LABELS, MOST_SPOTS}

-- how many of the numbers below n pass
abbrev pub count_below : (ℕ → Bool) → ℕ → ℕ
count_below test zero = 0
count_below test (suc n) = count_below test n + (if test n then 1 else 0)

-- what is kept, where so many labels were taken
abbrev pub state_at : {K : Type 0} → ℕ → K → State K
state_at depth kept = record { depth = depth; kept = kept }

-- how many labels there are where so many were taken: none at the leaves
abbrev pub labels_under : ℕ → (ℕ → ℕ) → ℕ → ℕ
labels_under height breadth depth = if nat_lt depth height then breadth depth else 0

module _ {K : Type 0} (height : ℕ) (breadth : ℕ → ℕ) where
  -- how many labels a state has
  abbrev pub labels_of : State K → ℕ
  labels_of state = labels_under height breadth state.depth

  module _ (step : ℕ → K → ℕ → Option (K × ℕ)) where
    -- the state behind a label; none where it makes no step
    abbrev pub state_after : State K → ℕ → Option (State K)
    state_after state label = option_map (λ next. state_at (state.depth + 1) next.0) (step state.depth state.kept label)

    -- how many of its labels make a step
    abbrev pub edges_of : State K → ℕ
    edges_of state = count_below (λ label. is_some (state_after state label)) (labels_of state)

    -- the state behind one of its labels
    abbrev pub next_of : State K → ℕ → Option (State K)
    next_of state label = if nat_lt label (labels_of state) then state_after state label else None

    -- where a path leads from a state
    abbrev pub state_from : State K → List ℕ → Option (State K)
    state_from state [] = Some state
    state_from state (label ∷ path) = option_and_then (λ next. state_from next path) (next_of state label)

-- a path leads to the state
pub record IsState {K : Type 0} (start : K) (height : ℕ) (breadth : ℕ → ℕ) (step : ℕ → K → ℕ → Option (K × ℕ))
    (state : State K) : Type 0 where
  pub path : List ℕ
  pub leads : state_from height breadth step (state_at 0 start) path ≡ Some state

-- some states, no two of them the same, are too many for a web, or have too many edges or labels
pub record IsTooLarge {K : Type 0} (start : K) (height : ℕ) (breadth : ℕ → ℕ) (step : ℕ → K → ℕ → Option (K × ℕ))
    : Type 0 where
  pub states : List (State K)
  pub once : AllPairs (λ one other. one ≢ other) states
  pub each : All (IsState start height breadth step) states
  pub more : (MOST_SPOTS < length states)
      ⊎ ((MOST_EDGES < sum_by (edges_of height breadth step) states)
      ⊎ (MOST_LABELS < sum_by (labels_of height breadth) states))
