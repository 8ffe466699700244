-- How a path stands in each case, and its sums.
use Rattle.std.specs.Prelude.{◌≡◌, ℕ, ◌+◌, ◌*◌, ◌^◌, ◌<◌, ◌≤◌, ◌||◌, [], List, Option, Some, None, IfSome, Bool, option_map, length, slice_index_or}
use Rattle.floor_graphs.specs.Graphs.{AreChecked, Rate, sum_at, units_of}
use Rattle.floor_graphs.specs.Numbers.{AreLeast, AreSmall, IsEndBelow, is_edge_by, number_in}
use Rattle.floor_graphs.specs.Cases.{least_below, least_of_cases}
use Rattle.priced_paths.specs.declared.guide.Standing.{Standing}
use Rattle.priced_paths.specs.declared.guide.Place.{Place}
use Rattle.priced_paths.specs.declared.web.Web.{Web}
use Rattle.priced_paths.specs.Tolls.{charged_to, has_reached}
use Rattle.priced_paths.specs.Webs.{spot_at, depth_in}
use Rattle.priced_paths.specs.CaseGraphs.{Case, case_edge, case_ends, case_width, node_at, nodes_of}

-- what was charged, and whether what is asked for was reached
abbrev pub standing : Bool → ℕ → Standing
standing reached charged = record { charged = charged; reached = reached }

-- how a path stands in a case that has all of its steps
abbrev pub standing_of : Case → List ℕ → Option Standing
standing_of case path = option_map (standing (has_reached case.reaches path)) (charged_to case.toll path)

-- what a case has charged; 0 where the case doesn't have all of the steps
abbrev pub charge_or : Option Standing → ℕ
charge_or None = 0
charge_or (Some its) = its.charged

-- what a path has paid in a case: what it has settled, at the case's rate, and what it was charged
abbrev pub paid_in : Case → (List ℕ → ℕ) → List ℕ → ℕ
paid_in case settled path = case.rate.scale * settled path + charge_or (standing_of case path)

-- the node of a spot at which a path stands so; one past all nodes where there is none
abbrev pub node_or : {K : Type 0} → Web K → Option ℕ → Option Standing → ℕ
node_or web None its = nodes_of web
node_or web (Some at) None = nodes_of web
node_or web (Some at) (Some its) = node_at (length web.spots.items) at its.reached

-- a path's node in a case
abbrev pub node_in : {K : Type 0} → Web K → Case → List ℕ → ℕ
node_in web case path = node_or web (spot_at web path) (standing_of case path)

-- the numbers of a case
abbrev pub numbers_of : List (List (Option ℕ)) → ℕ → List (Option ℕ)
numbers_of numbers k = slice_index_or numbers k []

-- a path's sum in a case
abbrev pub case_sum : {K : Type 0} → Web K → Case → (List ℕ → ℕ) → List (Option ℕ) → List ℕ → Option ℕ
case_sum web case settled numbers =
    sum_at case.rate (paid_in case settled) (node_in web case) (number_in numbers)

-- the sum in a case, by its numbers, of a path at a spot that stands so and has settled so much
abbrev pub sum_by : {K : Type 0} → Web K → Rate → List (Option ℕ) → ℕ → ℕ → Option Standing → Option ℕ
sum_by web rate numbers settled at None = None
sum_by web rate numbers settled at (Some its) =
    option_map (λ own. units_of rate (rate.scale * settled + its.charged + own))
    (number_in numbers (node_at (length web.spots.items) at its.reached))

-- how a path stands after a step, by what that is charged
abbrev pub standing_by : Option ℕ → Bool → Option Standing → Option Standing
standing_by charge reaches None = None
standing_by None reaches (Some its) = None
standing_by (Some charge) reaches (Some its) = Some (standing (its.reached || reaches) (its.charged + charge))

-- how a place says that the path stands in a case
abbrev pub standing_in : Place → ℕ → Option Standing
standing_in place k = slice_index_or place.standings k None

-- after so many steps the case has charged no more than each may be charged
abbrev pub IsCheap : ℕ → Option Standing → Type 0
IsCheap depth own = IfSome own (λ its. its.charged ≤ depth * 2 ^ 24)

-- the least of the sums of a place at which so much was settled
abbrev pub least_at : {K : Type 0} → Web K → (ℕ → Case) → ℕ → List (List (Option ℕ)) → ℕ → Place → Option ℕ
least_at web case count numbers settled place =
    least_below (λ k. sum_by web (case k).rate (numbers_of numbers k) settled place.at (standing_in place k)) count

-- the least of a path's sums
abbrev pub priced_sum : {K : Type 0} → Web K → (ℕ → Case) → ℕ → (List ℕ → ℕ) → List (List (Option ℕ)) → List ℕ → Option ℕ
priced_sum web case count settled numbers =
    least_of_cases (λ k. case_sum web (case k) settled (numbers_of numbers k)) count

-- the place has the path's spot, and knows how the path stands in each case
pub record IsPlaceOf {K : Type 0} (web : Web K) (case : ℕ → Case) (count : ℕ) (place : Place) (path : List ℕ) : Type 0 where
  pub at : spot_at web path ≡ Some place.at
  pub within : place.at < length web.spots.items
  pub deep : depth_in web place.at ≡ length path
  pub standings : (k : ℕ) → k < count → standing_in place k ≡ standing_of (case k) path
  pub cheap : (k : ℕ) → k < count → IsCheap (length path) (standing_in place k)

-- the numbers of a case's graph: they pass their check, are the least ones, and a unit of value is
-- worth something
pub record AreNumbersOf {K : Type 0} (web : Web K) (height : ℕ) (case : Case) (numbers : List (Option ℕ)) : Type 0 where
  pub checked : AreChecked (is_edge_by (case_edge web case)) (IsEndBelow (case_ends web height) (nodes_of web))
      (number_in numbers)
  pub least : AreLeast (case_edge web case) (case_width web) (case_ends web height) (nodes_of web) numbers
  pub small : AreSmall numbers
  pub some : 0 < case.rate.scale
  pub whole : length numbers ≡ nodes_of web
