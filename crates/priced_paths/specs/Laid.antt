-- How a web is laid over all states: the spot of each at its place, with the edges of its labels.
use Rattle.std.specs.Prelude.{◌≡◌, ℕ, ◌+◌, ◌<◌, List, Option, Some, None, length, min, slice_get, slice_index_or}
use Rattle.priced_paths.specs.declared.states.State.{State}
use Rattle.priced_paths.specs.declared.web.Edge.{Edge}
use Rattle.priced_paths.specs.declared.web.Spot.{Spot}
use Rattle.priced_paths.specs.declared.web.Web.{Web}
use Rattle.priced_paths.specs.declared.web.TheConstants.{MOST_COST}
use Rattle.priced_paths.specs.Sizes.{labels_of, state_at}
use Rattle.priced_paths.specs.Webs.{HasSlots, slot_edge}

-- the edge leads to the place of what is kept behind a step, a later one, and costs what the step
-- does, or the most that an edge may
pub record LeadsTo {K : Type 0} (states : List (State K)) (at depth : ℕ) (step : K × ℕ) (edge : Edge) : Type 0 where
  pub later : at < edge.to
  pub there : slice_get states edge.to ≡ Some (state_at (depth + 1) step.0)
  pub costs : edge.cost ≡ min step.1 MOST_COST

-- there is an edge where there is a step, and it leads there
abbrev pub IsEdgeTo : {K : Type 0} → List (State K) → ℕ → ℕ → Option Edge → Option (K × ℕ) → Type 0
IsEdgeTo states at depth None None = Unit {0}
IsEdgeTo states at depth None (Some step) = ⊥
IsEdgeTo states at depth (Some edge) None = ⊥
IsEdgeTo states at depth (Some edge) (Some step) = LeadsTo states at depth step edge

-- a row has the edges of the first labels of the state at a place
pub record IsRow {K : Type 0} (step : ℕ → K → ℕ → Option (K × ℕ)) (states : List (State K)) (at : ℕ) (state : State K)
    (labels : ℕ) (row : List (Option Edge)) : Type 0 where
  pub whole : length row ≡ labels
  pub each : (label : ℕ) → label < labels
      → IsEdgeTo states at state.depth (slice_index_or row label None) (step state.depth state.kept label)

-- a spot has in its slots all edges of a row
pub record IsLaid {K : Type 0} (state : State K) (row edges : List (Option Edge)) (spot : Spot K) : Type 0 where
  pub deep : spot.depth ≡ state.depth
  pub keeps : spot.kept ≡ state.kept
  pub labels : spot.labels ≡ length row
  pub slots : HasSlots edges spot
  pub each : (label : ℕ) → label < length row → slot_edge edges spot label ≡ slice_index_or row label None

module _ {K : Type 0} (height : ℕ) (breadth : ℕ → ℕ) (step : ℕ → K → ℕ → Option (K × ℕ)) (states : List (State K)) where
  -- a spot has the edges of the state at a place
  pub record IsSpotFor (edges : List (Option Edge)) (at : ℕ) (state : State K) (spot : Spot K) : Type 0 where
    pub deep : spot.depth ≡ state.depth
    pub keeps : spot.kept ≡ state.kept
    pub labels : spot.labels ≡ labels_of height breadth state
    pub slots : HasSlots edges spot
    pub each : (label : ℕ) → label < spot.labels
        → IsEdgeTo states at state.depth (slot_edge edges spot label) (step state.depth state.kept label)

  -- the first so many states have their spots
  pub record AreLaid (count : ℕ) (web : Web K) : Type 0 where
    pub whole : length web.spots.items ≡ count
    pub each : (at : ℕ) (state : State K) (spot : Spot K) → slice_get states at ≡ Some state
        → slice_get web.spots.items at ≡ Some spot → IsSpotFor web.edges.items at state spot
