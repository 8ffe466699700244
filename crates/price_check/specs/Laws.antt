-- What holds of lists that lines state.
use Rattle.std.specs.Prelude.{◌≡◌, List}
use Rattle.std.specs.List.{AllByRecursion}
use Rattle.cert_law.specs.Rests.{HasSmallWeights}
use Rattle.fux_grid.specs.declared.cell.Cell.{Cell}
use Rattle.fux_grid.specs.declared.exercise.Exercise.{Exercise}
use Rattle.penalty_sheet.specs.declared.sheet.Sheet.{Sheet}
use Rattle.price_check.specs.PriceLists.{PriceList, sharp_floor}
use Rattle.price_check.specs.Owned.{AreKeys, IsFit}
use Rattle.price_check.specs.Stated.{AreDue, AreStated}
use Rattle.price_check.specs.Lists.{AreLists}
use Rattle.price_check.specs.PriceLines.{Line}

-- the lines of whole lists have such keys
abbrev pub ListsHaveKeys : Type 0
ListsHaveKeys = (ex : Exercise) (lines : List Line) → AreLists ex lines → AllByRecursion AreKeys lines

-- where each price is due, so are the lists
abbrev pub ListsFit : Type 0
ListsFit = (sheet : Sheet) (lines : List Line) (lists : List PriceList) → HasSmallWeights sheet
    → AllByRecursion AreKeys lines → AreDue sheet lines → AreStated sheet lines lists → AllByRecursion (IsFit sheet) lists

-- lists that the same lines state give the same floors
abbrev pub StatedFloorsAreOne : Type 0
StatedFloorsAreOne = (ex : Exercise) (sheet : Sheet) (lines : List Line) (lists others : List PriceList) (p : List (List Cell))
    → AreStated sheet lines lists → AreStated sheet lines others
    → sharp_floor ex sheet lists p ≡ sharp_floor ex sheet others p
