-- The web as a case charges it: a graph whose nodes are the spots, each where what is asked for was
-- reached and where it wasn't.
use Rattle.std.specs.Prelude.{ℕ, ◌+◌, ◌-◌, ◌*◌, ◌==◌, nat_lt, ◌&&◌, ◌||◌, Option, None, Bool, option_map, option_and_then, length, if◌then◌else◌}
use Rattle.floor_graphs.specs.Graphs.{Rate}
use Rattle.floor_graphs.specs.Numbers.{Step}
use Rattle.priced_paths.specs.declared.web.Edge.{Edge}
use Rattle.priced_paths.specs.declared.web.Web.{Web}
use Rattle.priced_paths.specs.Webs.{edge_in, depth_in, labels_in}

-- what a case charges, which steps do what it asks for, and its rate
pub record Case : Type 0 where
  pub toll : ℕ → ℕ → Option ℕ
  pub reaches : ℕ → ℕ → Bool
  pub rate : Rate

-- the case of this number
abbrev pub case_of : (ℕ → ℕ → ℕ → Option ℕ) → (ℕ → ℕ → ℕ → Bool) → (ℕ → Rate) → ℕ → Case
case_of toll reaches rate k = record { toll = toll k; reaches = reaches k; rate = rate k }

-- the node of a spot, of so many
abbrev pub node_at : ℕ → ℕ → Bool → ℕ
node_at count at reached = if reached then count - 1 - at else 2 * count - 1 - at

-- a node's spot
abbrev pub spot_of : ℕ → ℕ → ℕ
spot_of count node = if nat_lt node count then count - 1 - node else 2 * count - 1 - node

-- a node is one where what is asked for was reached
abbrev pub is_reached : ℕ → ℕ → Bool
is_reached count node = nat_lt node count

-- how many nodes there are
abbrev pub nodes_of : {K : Type 0} → Web K → ℕ
nodes_of web = 2 * length web.spots.items

-- an edge as it is charged
abbrev pub charged_edge : ℕ → ℕ → Bool → Edge → Option ℕ → Option Step
charged_edge count scale reached edge charge =
    option_map (λ c. (node_at count edge.to reached, scale * edge.cost + c)) charge

-- a spot's edge, as it is charged at a depth, where what is asked for was reached or wasn't
abbrev pub edge_by : {K : Type 0} → Web K → Case → ℕ → ℕ → Bool → ℕ → Option Step
edge_by web case depth at reached label =
    option_and_then (λ edge. charged_edge (length web.spots.items) case.rate.scale
    (reached || case.reaches depth label) edge (case.toll depth label)) (edge_in web at label)

-- a node's edge under a label
abbrev pub case_edge : {K : Type 0} → Web K → Case → ℕ → ℕ → Option Step
case_edge web case node label =
    let count = length web.spots.items in
    if nat_lt node (nodes_of web)
    then edge_by web case (depth_in web (spot_of count node)) (spot_of count node) (is_reached count node) label
    else None

-- how many labels a node has
abbrev pub case_width : {K : Type 0} → Web K → ℕ → ℕ
case_width web node = labels_in web (spot_of (length web.spots.items) node)

-- the graph ends at the leaves where what is asked for was reached
abbrev pub case_ends : {K : Type 0} → Web K → ℕ → ℕ → Bool
case_ends web height node =
    let count = length web.spots.items in is_reached count node && (depth_in web (spot_of count node) == height)
