-- Lists of prices that are owned.
use Rattle.std.specs.Prelude.{◌≡◌, ◌<◌, ◌≤◌, ⊤, length}
use Rattle.std.specs.List.{AllByRecursion}
use Rattle.penalty_sheet.specs.declared.sheet.Sheet.{Sheet}
use Rattle.price_check.specs.declared.stated.OwnList.{OwnList}
use Rattle.price_check.specs.Certificates.{IsFairList}
use Rattle.price_check.specs.PriceLists.{PriceList}
use Rattle.price_check.specs.PriceLines.{Cases, Claims, Keeps, Line, Price}
use Rattle.priced_floors.specs.declared.charges.TheConstants.{CASES, MOST_CHARGE, SCALE}
use Rattle.priced_floors.specs.Charges.{AreSmallCharges}

-- the list of prices
abbrev pub list_owned : OwnList → PriceList
list_owned own = record { keeps = own.keeps; charges = own.charges; plain = own.plain }

-- keys are below 127, and there are at most 15
abbrev pub AreKeys : Line → Type 0
AreKeys (Keeps turns runs) = ⊤
AreKeys (Cases voice keys) = AllByRecursion (λ key. key < 127) keys × (length keys ≤ 15)
AreKeys (Price case voice pitch number) = ⊤
AreKeys Claims = ⊤

-- what is charged is due and small, in our parts, and there are few cases
pub record IsFit (sheet : Sheet) (list : PriceList) : Type 0 where
  pub fair : IsFairList sheet list
  pub small : AreSmallCharges MOST_CHARGE list.charges
  pub scale : list.charges.scale ≡ SCALE
  pub few : length list.charges.summits.items ≤ CASES
