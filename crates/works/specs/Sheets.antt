-- The sheet in use, and work over it.
use Rattle.std.specs.Prelude.{◌≡◌, ℕ, ◌⊎◌, List, [], ◌∷◌, Result, Ok, Err}
use Rattle.penalty_sheet.specs.declared.fault.SheetFault.{SheetFault}
use Rattle.penalty_sheet.specs.declared.sheet.Sheet.{Sheet}
use Rattle.cantus_space.specs.declared.prices.CantusPrices.{CantusPrices}
use Rattle.cantus_space.specs.declared.prices.PricedSheet.{PricedSheet}
use Rattle.cantus_space.specs.Prices.{no_prices}
use Rattle.cantus_space.specs.PricedSheets.{priced_of}
use Rattle.works.specs.declared.refusal.Refusal.{Refusal}
use Rattle.works.specs.declared.refusal.Refusal.TheVariants as refusal
use Rattle.works.specs.declared.work.Stop.{Stop}
use Rattle.works.specs.declared.work.Stop.TheVariants.{Refused, Memory}
use Rattle.works.specs.Searched.{usual_sheet}
use Rattle.works.specs.Texts.{Work}

-- of a sheet with prices the weights, or what is wrong with it
abbrev pub weights_alone : Result PricedSheet SheetFault → Result Sheet SheetFault
weights_alone (Ok priced) = Ok priced.sheet
weights_alone (Err fault) = Err fault

-- and the prices, where nothing is wrong with it
abbrev pub prices_alone : Result PricedSheet SheetFault → CantusPrices
prices_alone (Ok priced) = priced.prices
prices_alone (Err fault) = no_prices

-- what is said of the weights: by the file that is given, or the usual ones where none is
abbrev pub sheet_said : List (List ℕ) → Result Sheet SheetFault
sheet_said [] = Ok usual_sheet
sheet_said (bytes ∷ more) = weights_alone (priced_of bytes)

-- the prices of a cantus alone: those of the file that is given, or none
abbrev pub prices_in_use : List (List ℕ) → CantusPrices
prices_in_use [] = no_prices
prices_in_use (bytes ∷ more) = prices_alone (priced_of bytes)

-- a refusal of a file that is no sheet: it tells the first fault
abbrev pub RefusesSheet : List (List ℕ) → Refusal → Type 0
RefusesSheet files (refusal.Sheet fault) = sheet_said files ≡ Err fault
RefusesSheet files _ = ⊥

-- the sheet in use, or a refusal of its file, or memory is wanting
abbrev pub ReadsSheet : List (List ℕ) → Result Sheet Stop → Type 0
ReadsSheet files (Ok sheet) = sheet_said files ≡ Ok sheet
ReadsSheet files (Err (Refused refusal)) = RefusesSheet files refusal
ReadsSheet files (Err Memory) = Unit {0}

-- the same with the prices in use
abbrev pub ReadsPriced : List (List ℕ) → Result PricedSheet Stop → Type 0
ReadsPriced files (Ok priced) = (sheet_said files ≡ Ok priced.sheet) × (prices_in_use files ≡ priced.prices)
ReadsPriced files (Err (Refused refusal)) = RefusesSheet files refusal
ReadsPriced files (Err Memory) = Unit {0}

-- work over the sheet in use
pub record OverSheet (Made : Sheet → Work → Type 0) (files : List (List ℕ)) (work : Work) : Type 0 where
  pub sheet : Sheet
  pub said : sheet_said files ≡ Ok sheet
  pub made : Made sheet work

-- work that refuses the file of the sheet
pub record OnNoSheet (files : List (List ℕ)) (work : Work) : Type 0 where
  pub refusal : Refusal
  pub is : work ≡ Err refusal
  pub cause : RefusesSheet files refusal

-- work over the sheet in use, where there is one
abbrev pub OnSheet : (Sheet → Work → Type 0) → List (List ℕ) → Work → Type 0
OnSheet Made files work = OverSheet Made files work ⊎ OnNoSheet files work
