-- Lists with the settings that they price, the webs of what they keep, and the numbers worked there.
use Rattle.std.specs.Prelude.{◌≡◌, ◌≢◌, ℕ, ◌+◌, ◌*◌, ◌<◌, ◌≤◌, Bool, List, [], Option, Some, None, Vec, length, slice_get, slice_index_or, if◌then◌else◌}
use Rattle.std.specs.declared.alloc.Global.{Global}
use Rattle.fux_grid.specs.declared.exercise.Exercise.{Exercise}
use Rattle.fux_grid.specs.Exercises.{columns_in}
use Rattle.open_ends.specs.declared.keeps.Keeps.{Keeps}
use Rattle.open_ends.specs.declared.keeps.Pairs.{Pairs}
use Rattle.penalty_sheet.specs.declared.sheet.Sheet.{Sheet}
use Rattle.floor_tables.specs.Tables.{Task}
use Rattle.price_check.specs.declared.priced_list.PricedList.{PricedList}
use Rattle.price_check.specs.PriceLists.{PriceList, case_in}
use Rattle.priced_floors.specs.declared.kept.Kept.{Kept}
use Rattle.priced_floors.specs.declared.pricing.PricedSpace.{PricedSpace}
use Rattle.priced_floors.specs.Kept.{kept_of, step_of}
use Rattle.priced_floors.specs.PricedLaws.{breadth_of}
use Rattle.priced_paths.specs.declared.pricing.TheConstants.{MOST_CASES}
use Rattle.priced_paths.specs.declared.web.Web.{Web}
use Rattle.priced_paths.specs.Places.{AreNumbersOf, numbers_of}
use Rattle.priced_paths.specs.Sizes.{IsTooLarge}
use Rattle.priced_paths.specs.Webs.{IsWeb}

-- the list
abbrev pub list_priced : PricedList → PriceList
list_priced it = record { keeps = it.space.keeps; charges = it.space.charges.now; plain = it.plain }

-- each is of the settings of an exercise by a sheet
abbrev pub AreOf : Task → List PricedList → Type 0
AreOf task lists = (j : ℕ) (it : PricedList) → slice_get lists j ≡ Some it → it.space.space.now ≡ task

-- a number with a bit more
abbrev pub with_bit : Bool → ℕ → ℕ
with_bit bit number = 2 * number + (if bit then 1 else 0)

-- the number of some pairs of voices, among the 64 choices of them
abbrev pub pairs_number : Pairs → ℕ
pairs_number pairs =
    with_bit pairs.v01 (with_bit pairs.v02 (with_bit pairs.v03 (with_bit pairs.v12 (with_bit pairs.v13
    (with_bit pairs.v23 0)))))

-- the number of what is kept, among the 256 that may be
abbrev pub keeps_number : Keeps → ℕ
keeps_number keeps = with_bit keeps.turns (with_bit keeps.parallels (pairs_number keeps.runs))

-- a web is that of what is kept of settings
abbrev pub IsWebOf : PricedSpace → Web Kept → Type 0
IsWebOf priced web =
    IsWeb (kept_of priced.space.now.exercise priced.keeps []) (columns_in priced.space.now.exercise)
    (breadth_of priced.space.now.exercise) (step_of priced.space.now.exercise priced.space.now.sheet priced.keeps) web

-- the web under the number of what a list keeps
abbrev pub web_under : List (Option (Web Kept)) → Keeps → Option (Web Kept)
web_under webs keeps = slice_index_or webs (keeps_number keeps) None

-- a list has a web
pub record HasWeb (webs : List (Option (Web Kept))) (it : PricedList) : Type 0 where
  pub web : Web Kept
  pub is : web_under webs it.space.keeps ≡ Some web
  pub woven : IsWebOf it.space web

-- the web of what the lists keep that has a number; none where no list keeps that
abbrev pub IsWebFor : List PricedList → ℕ → Option (Web Kept) → Type 0
IsWebFor lists number None =
    (j : ℕ) (it : PricedList) → slice_get lists j ≡ Some it → keeps_number it.space.keeps ≢ number
IsWebFor lists number (Some web) =
    (j : ℕ) (it : PricedList) → slice_get lists j ≡ Some it → keeps_number it.space.keeps ≡ number → IsWebOf it.space web

-- what is kept of the settings of an exercise makes too large a web
abbrev pub IsLargeWeb : Exercise → Sheet → Keeps → Type 0
IsLargeWeb ex sheet keeps = IsTooLarge (kept_of ex keeps []) (columns_in ex) (breadth_of ex) (step_of ex sheet keeps)

-- one of the lists keeps what makes too large a web
pub record HasLargeWeb (ex : Exercise) (sheet : Sheet) (lists : List PriceList) : Type 0 where
  pub place : ℕ
  pub list : PriceList
  pub there : slice_get lists place ≡ Some list
  pub large : IsLargeWeb ex sheet list.keeps

-- a list keeps what makes too large a web
abbrev pub IsLargeList : PricedList → Type 0
IsLargeList it = IsLargeWeb it.space.space.now.exercise it.space.space.now.sheet it.space.keeps

-- none of those does that keep what has a number
abbrev pub FitsFor : List PricedList → ℕ → Type 0
FitsFor lists number =
    (j : ℕ) (it : PricedList) → slice_get lists j ≡ Some it → keeps_number it.space.keeps ≡ number → IsLargeList it → ⊥

-- the lists are of the settings of one exercise by one sheet
pub record AreOfOne (lists : List PricedList) : Type 0 where
  pub task : Task
  pub all : AreOf task lists

-- each list has one
abbrev pub AreWebs : List PricedList → List (Option (Web Kept)) → Type 0
AreWebs lists webs = (j : ℕ) (it : PricedList) → slice_get lists j ≡ Some it → HasWeb webs it

-- numbers are those of settings in a case, over a web
abbrev pub AreCaseNumbers : PricedSpace → Web Kept → ℕ → List (Option ℕ) → Type 0
AreCaseNumbers priced web k numbers =
    AreNumbersOf web (columns_in priced.space.now.exercise) (case_in priced.space.now.exercise priced.charges.now k) numbers

-- they are those of each case
pub record AreNumbersOver (priced : PricedSpace) (web : Web Kept) (numbers : List (List (Option ℕ))) : Type 0 where
  pub short : columns_in priced.space.now.exercise ≤ 192
  pub few : length priced.charges.now.summits.items ≤ MOST_CASES
  pub each : length numbers ≡ length priced.charges.now.summits.items
  pub worked : (k : ℕ) → k < length priced.charges.now.summits.items
      → AreCaseNumbers priced web k (numbers_of numbers k)

-- the numbers are those of a list's cases over its web
pub record AreNumbersIn (webs : List (Option (Web Kept))) (it : PricedList) (numbers : List (List (Option ℕ))) : Type 0 where
  pub short : columns_in it.space.space.now.exercise ≤ 192
  pub few : length it.space.charges.now.summits.items ≤ MOST_CASES
  pub each : length numbers ≡ length it.space.charges.now.summits.items
  pub worked : (web : Web Kept) → web_under webs it.space.keeps ≡ Some web → (k : ℕ)
      → k < length it.space.charges.now.summits.items
      → AreNumbersOf web (columns_in it.space.space.now.exercise) (case_in it.space.space.now.exercise it.space.charges.now k)
      (numbers_of numbers k)

-- they are those of the list at a place
abbrev pub AreNumbersAt : List PricedList → List (Option (Web Kept)) → ℕ → Vec (List (Option ℕ)) Global → Type 0
AreNumbersAt lists webs j own = (it : PricedList) → slice_get lists j ≡ Some it → AreNumbersIn webs it own.items

-- each list has its numbers
pub record AreEachNumbers (lists : List PricedList) (webs : List (Option (Web Kept))) (numbers : List (Vec (List (Option ℕ)) Global))
    : Type 0 where
  pub whole : length numbers ≡ length lists
  pub each : (j : ℕ) (it : PricedList) (own : Vec (List (Option ℕ)) Global) → slice_get lists j ≡ Some it
      → slice_get numbers j ≡ Some own → AreNumbersIn webs it own.items
