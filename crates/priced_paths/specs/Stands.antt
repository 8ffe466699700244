-- Where a path stands in a web, and that its sum is read off there.
use Rattle.std.specs.Prelude.{◌≡◌, ℕ, ◌≤◌, List, Option, Some, None, length}
use Rattle.priced_paths.specs.declared.guide.Place.{Place}
use Rattle.priced_paths.specs.declared.web.Web.{Web}
use Rattle.priced_paths.specs.CaseGraphs.{Case}
use Rattle.priced_paths.specs.Places.{IsPlaceOf, least_at}
use Rattle.priced_paths.specs.Webs.{spot_at}
use Rattle.priced_paths.specs.LeastRests.{Breadth, Steps, least_sum}

-- the place is the path's, or there is none, and the path has no spot
abbrev pub StandsAt : {K : Type 0} → Web K → (ℕ → Case) → ℕ → Option Place → List ℕ → Type 0
StandsAt web case count None path = spot_at web path ≡ None
StandsAt web case count (Some place) path = IsPlaceOf web case count place path

-- it is that of some path
pub record StandsSomewhere {K : Type 0} (web : Web K) (case : ℕ → Case) (count : ℕ) (place : Option Place) : Type 0 where
  pub path : List ℕ
  pub stands : StandsAt web case count place path

-- the least of the sums of a place, by the numbers of the cases; none where there is no place
abbrev pub sum_there : {K : Type 0} → Web K → (ℕ → Case) → ℕ → List (List (Option ℕ)) → ℕ → Option Place → Option ℕ
sum_there web case count numbers settled None = None
sum_there web case count numbers settled (Some place) = least_at web case count numbers settled place

-- the sum of a place is that of the path that stands there
abbrev pub AreExact : {K : Type 0} → Web K → (ℕ → Case) → ℕ → List (List (Option ℕ)) → ℕ → K → Breadth → Steps K
    → Type 0
AreExact web case count numbers height start breadth step =
    (place : Option Place) (path : List ℕ) (settled : ℕ) → StandsAt web case count place path → length path ≤ height
    → sum_there web case count numbers settled place ≡ least_sum height start breadth step case count settled path
