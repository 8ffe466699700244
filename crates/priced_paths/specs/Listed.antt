-- How the states are listed: each once, in the order of their depths, and behind what leads to them.
use Rattle.std.specs.Prelude.{◌≡◌, is_some, ◌≢◌, ◌⊎◌, ℕ, ◌+◌, ◌<◌, ◌≤◌, List, [], ◌∷◌, ◌++◌, Option, Some, None, All, AllPairs, Contains, length, slice_get, sum_by, take}
use Rattle.priced_paths.specs.declared.states.State.{State}
use Rattle.priced_paths.specs.declared.states.Tally.{Tally}
use Rattle.priced_paths.specs.declared.web.TheConstants.{MOST_EDGES, MOST_LABELS, MOST_SPOTS}
use Rattle.priced_paths.specs.Sizes.{IsState, count_below, edges_of, labels_of, next_of, state_after, state_at}

-- a list with what may be one item more: at its end, where the list doesn't have it
abbrev pub GrowsBy : {X : Type 0} → Option X → List X → List X → Type 0
GrowsBy None old new = new ≡ old
GrowsBy (Some x) old new = (Contains old x × (new ≡ old)) ⊎ ((Contains old x → ⊥) × (new ≡ old ++ x ∷ []))

-- each is at most one deeper than this one
abbrev pub AreNear : {K : Type 0} → State K → List (State K) → Type 0
AreNear state states = All (λ other. other.depth ≤ state.depth + 1) states

-- the labels and the edges of the first so many states
pub record AreCounted {K : Type 0} (height : ℕ) (breadth : ℕ → ℕ) (step : ℕ → K → ℕ → Option (K × ℕ)) (count : ℕ)
    (tally : Tally) (states : List (State K)) : Type 0 where
  pub labels : tally.labels ≡ sum_by (labels_of height breadth) (take count states)
  pub edges : tally.edges ≡ sum_by (edges_of height breadth step) (take count states)
  pub few_labels : tally.labels ≤ MOST_LABELS
  pub few_edges : tally.edges ≤ MOST_EDGES

module _ {K : Type 0} (start : K) (height : ℕ) (breadth : ℕ → ℕ) (step : ℕ → K → ℕ → Option (K × ℕ)) where
  -- the list has each state behind a label of this one
  abbrev pub AreNextIn : List (State K) → State K → Type 0
  AreNextIn states state =
      (label : ℕ) (next : State K) → next_of height breadth step state label ≡ Some next → Contains states next

  -- some states, each once, in the order of their depths, beginning with that of the empty path
  pub record AreStates (states : List (State K)) : Type 0 where
    pub first : slice_get states 0 ≡ Some (state_at 0 start)
    pub once : AllPairs (λ one other. one ≢ other) states
    pub each : All (IsState start height breadth step) states
    pub deeper : AllPairs (λ one other. one.depth ≤ other.depth) states

  -- they have all that the first so many lead to, and nothing deeper
  pub record AreListed (count : ℕ) (states : List (State K)) : Type 0 where
    pub are : AreStates states
    pub few : length states ≤ MOST_SPOTS
    pub closed : (at : ℕ) (state : State K) → at < count → slice_get states at ≡ Some state → AreNextIn states state
    pub near : (at : ℕ) (state : State K) → count ≤ at → slice_get states at ≡ Some state → AreNear state states

  -- what a state leads to may be listed next
  pub record AreWorkable (state : State K) (states : List (State K)) : Type 0 where
    pub is : IsState start height breadth step state
    pub are : AreStates states
    pub few : length states ≤ MOST_SPOTS
    pub near : AreNear state states

  -- what the first labels of a state lead to was listed, and so many of them make a step
  pub record IsWorking (state : State K) (label edges : ℕ) (old states : List (State K)) : Type 0 where
    pub are : AreStates states
    pub few : length states ≤ MOST_SPOTS
    pub near : AreNear state states
    pub more : List (State K)
    pub grown : states ≡ old ++ more
    pub seen : (k : ℕ) (next : State K) → k < label → state_after height breadth step state k ≡ Some next
        → Contains states next
    pub counts : edges ≡ count_below (λ k. is_some (state_after height breadth step state k)) label

  -- what a state leads to was listed
  pub record IsWorked (state : State K) (old new : List (State K)) : Type 0 where
    pub are : AreStates new
    pub few : length new ≤ MOST_SPOTS
    pub near : AreNear state new
    pub more : List (State K)
    pub grown : new ≡ old ++ more
    pub next : AreNextIn new state

  -- all states
  pub record AreAllStates (states : List (State K)) : Type 0 where
    pub are : AreStates states
    pub closed : (at : ℕ) (state : State K) → slice_get states at ≡ Some state → AreNextIn states state
    pub few : length states ≤ MOST_SPOTS
    pub few_labels : sum_by (labels_of height breadth) states ≤ MOST_LABELS
    pub few_edges : sum_by (edges_of height breadth step) states ≤ MOST_EDGES
