-- Lists with the webs in which their numbers were worked, and where paths stand in these.
use Rattle.std.specs.Prelude.{◌≡◌, ℕ, List, Option, Some, None, length, slice_get, slice_index_or}
use Rattle.fux_grid.specs.declared.exercise.Exercise.{Exercise}
use Rattle.priced_paths.specs.Stands.{StandsAt}
use Rattle.penalty_sheet.specs.declared.sheet.Sheet.{Sheet}
use Rattle.price_check.specs.declared.floors.ListFloor.{ListFloor}
use Rattle.price_check.specs.PriceLists.{PriceList, case_in}
use Rattle.priced_paths.specs.declared.guide.Place.{Place}

-- the exercise and the sheet for which a list is, and the list
abbrev pub exercise_of : ListFloor → Exercise
exercise_of floor = floor.sums.guide.pricing.now.space.now.exercise

abbrev pub sheet_of : ListFloor → Sheet
sheet_of floor = floor.sums.guide.pricing.now.space.now.sheet

abbrev pub list_of : ListFloor → PriceList
list_of floor = record {
  keeps = floor.sums.guide.pricing.now.keeps;
  charges = floor.sums.guide.pricing.now.charges.now;
  plain = floor.plain;
}

-- the place is where a path stands in the web, by the list's cases
abbrev pub StandsIn : ListFloor → Option Place → List ℕ → Type 0
StandsIn floor place path =
    StandsAt floor.sums.guide.web.now (case_in (exercise_of floor) (list_of floor).charges)
    (length (list_of floor).charges.summits.items) place path

-- it is that of some path
pub record HasPath (floor : ListFloor) (place : Option Place) : Type 0 where
  pub path : List ℕ
  pub stands : StandsIn floor place path

-- each place is where a path stands in the web of the list of the same number
abbrev pub ArePlaces : List ListFloor → List (Option Place) → List ℕ → Type 0
ArePlaces floors places path =
    (j : ℕ) (floor : ListFloor) → slice_get floors j ≡ Some floor → StandsIn floor (slice_index_or places j None) path

-- they are those of some path
pub record HavePath (floors : List ListFloor) (places : List (Option Place)) : Type 0 where
  pub path : List ℕ
  pub stand : ArePlaces floors places path

-- each list is for this exercise and this sheet
abbrev pub AreFor : Exercise → Sheet → List ListFloor → Type 0
AreFor ex sheet floors =
    (j : ℕ) (floor : ListFloor) → slice_get floors j ≡ Some floor → (exercise_of floor ≡ ex) × (sheet_of floor ≡ sheet)
