-- What a web is, and where paths lead in it.
use Rattle.std.specs.Prelude.{◌≡◌, ℕ, ◌+◌, ◌<◌, ◌≤◌, nat_lt, nat_le, ◌-◌, ◌||◌, [], ◌∷◌, List, Option, Some, None, option_and_then, length, min, slice_get, slice_index_or, if◌then◌else◌}
use Rattle.priced_paths.specs.declared.web.Edge.{Edge}
use Rattle.priced_paths.specs.declared.web.Spot.{Spot}
use Rattle.priced_paths.specs.declared.web.Web.{Web}
use Rattle.priced_paths.specs.declared.web.TheConstants.{MOST_COST, MOST_SPOTS}

-- the edge in a spot's slot for a label; none where it has no slot for it
abbrev pub slot_edge : {K : Type 0} → List (Option Edge) → Spot K → ℕ → Option Edge
slot_edge edges spot label =
    if nat_lt label spot.low || nat_le spot.high label then None
    else slice_index_or edges (spot.first + (label - spot.low)) None

-- a spot's edge under a label
abbrev pub edge_of : {K : Type 0} → List (Option Edge) → ℕ → Spot K → Option Edge
edge_of edges label spot = if nat_lt label spot.labels then slot_edge edges spot label else None

-- the edge of the spot of this number
abbrev pub edge_in : {K : Type 0} → Web K → ℕ → ℕ → Option Edge
edge_in web at label = option_and_then (edge_of web.edges.items label) (slice_get web.spots.items at)

-- where a path leads from a spot
abbrev pub spot_from : {K : Type 0} → Web K → ℕ → List ℕ → Option ℕ
spot_from web at [] = Some at
spot_from web at (label ∷ path) = option_and_then (λ (edge : Edge). spot_from web edge.to path) (edge_in web at label)

-- the spot of a path
abbrev pub spot_at : {K : Type 0} → Web K → List ℕ → Option ℕ
spot_at web path = spot_from web 0 path

-- how long the paths are that are kept at a spot; 0 where there is no spot
abbrev pub depth_or : {K : Type 0} → Option (Spot K) → ℕ
depth_or None = 0
depth_or (Some spot) = spot.depth

abbrev pub depth_in : {K : Type 0} → Web K → ℕ → ℕ
depth_in web at = depth_or (slice_get web.spots.items at)

-- how many labels a spot has; none where there is no spot
abbrev pub labels_or : {K : Type 0} → Option (Spot K) → ℕ
labels_or None = 0
labels_or (Some spot) = spot.labels

abbrev pub labels_in : {K : Type 0} → Web K → ℕ → ℕ
labels_in web at = labels_or (slice_get web.spots.items at)

-- a spot's slots are for some of its labels, and stand in the list of all edges
pub record HasSlots {K : Type 0} (edges : List (Option Edge)) (spot : Spot K) : Type 0 where
  pub order : spot.low ≤ spot.high
  pub within : spot.high ≤ spot.labels
  pub inside : spot.first + (spot.high - spot.low) ≤ length edges

-- so are those of the spot of this number
abbrev pub IsInside : {K : Type 0} → Web K → ℕ → Type 0
IsInside {K} web at = (spot : Spot K) → slice_get web.spots.items at ≡ Some spot → HasSlots web.edges.items spot

-- the edge leads to a later spot, one deeper, at which this is kept, and costs this, or the most that
-- an edge may where that is less
pub record LeadsOn {K : Type 0} (web : Web K) (at depth : ℕ) (kept : K) (cost : ℕ) (edge : Edge) : Type 0 where
  pub later : at < edge.to
  pub next : Spot K
  pub is_next : slice_get web.spots.items edge.to ≡ Some next
  pub deeper : next.depth ≡ depth + 1
  pub same : next.kept ≡ kept
  pub costs : edge.cost ≡ min cost MOST_COST

-- there is an edge where there is a step, and it leads on as the step does
abbrev pub IsEdgeOf : {K : Type 0} → Web K → ℕ → ℕ → Option Edge → Option (K × ℕ) → Type 0
IsEdgeOf web at depth None None = Unit {0}
IsEdgeOf web at depth None (Some step) = ⊥
IsEdgeOf web at depth (Some edge) None = ⊥
IsEdgeOf web at depth (Some edge) (Some step) = LeadsOn web at depth step.0 step.1 edge

-- a spot above the leaves has an edge for each step
pub record HasSteps {K : Type 0} (breadth : ℕ → ℕ) (step : ℕ → K → ℕ → Option (K × ℕ)) (web : Web K) (at : ℕ)
    (spot : Spot K) : Type 0 where
  pub all : spot.labels ≡ breadth spot.depth
  pub each : (label : ℕ) → label < spot.labels
      → IsEdgeOf web at spot.depth (slot_edge web.edges.items spot label) (step spot.depth spot.kept label)

-- a spot has slots, with the edges of its steps, and no labels at the leaves
pub record IsSpotOf {K : Type 0} (height : ℕ) (breadth : ℕ → ℕ) (step : ℕ → K → ℕ → Option (K × ℕ)) (web : Web K)
    (at : ℕ) (spot : Spot K) : Type 0 where
  pub slots : HasSlots web.edges.items spot
  pub above : spot.depth < height → HasSteps breadth step web at spot
  pub ends : height ≤ spot.depth → spot.labels ≡ 0

-- the first spot is that of the empty path, and each spot has the edges of its steps
pub record IsWeb {K : Type 0} (start : K) (height : ℕ) (breadth : ℕ → ℕ) (step : ℕ → K → ℕ → Option (K × ℕ))
    (web : Web K) : Type 0 where
  pub few : length web.spots.items ≤ MOST_SPOTS
  pub root : Spot K
  pub is_root : slice_get web.spots.items 0 ≡ Some root
  pub first : root.depth ≡ 0
  pub begins : root.kept ≡ start
  pub spots : (at : ℕ) (spot : Spot K) → slice_get web.spots.items at ≡ Some spot
      → IsSpotOf height breadth step web at spot

-- an edge leads from a spot above the leaves, under one of its labels, to a later one
pub record LeadsLater {K : Type 0} (height : ℕ) (breadth : ℕ → ℕ) (web : Web K) (at label : ℕ) (edge : Edge) : Type 0 where
  pub later : at < edge.to
  pub within : edge.to < length web.spots.items
  pub small : edge.cost ≤ MOST_COST
  pub above : depth_in web at < height
  pub is_label : label < breadth (depth_in web at)
  pub deeper : depth_in web edge.to ≡ depth_in web at + 1

-- what a web's numbers and indices rest on
pub record IsSound {K : Type 0} (height : ℕ) (breadth : ℕ → ℕ) (web : Web K) : Type 0 where
  pub few : length web.spots.items ≤ MOST_SPOTS
  pub some : 0 < length web.spots.items
  pub root : depth_in web 0 ≡ 0
  pub inside : (at : ℕ) → IsInside web at
  pub edges : (at label : ℕ) (edge : Edge) → edge_in web at label ≡ Some edge
      → LeadsLater height breadth web at label edge
