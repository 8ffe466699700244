-- What a text says of the weights of settings and of the prices of a cantus alone: a priced sheet,
-- or what is wrong with it. Documents, weights and faults are those of a sheet of weights.
use Rattle.std.specs.Prelude.{◌≡◌, ℕ, ◌+◌, ◌-◌, ◌≤◌, Bool, true, length, List, [], ◌∷◌, nat_lt, if◌then◌else◌, map, codes, slice_index_or, Option, Some, None, Result, Ok, Err}
use Rattle.std.specs.Option.{option_and_then}
use Rattle.std.specs.List.{list_any, range_with_len}
use Rattle.std.specs.Str.{bytes_eq}
use Rattle.toml.specs.Data.{Data, string, integer, float, boolean, datetime, array, table, Members, get_member, as_integer}
use Rattle.penalty_sheet.specs.declared.fault.SheetFault.{SheetFault}
use Rattle.penalty_sheet.specs.declared.fault.SheetFault.TheVariants.{TooLong, NotToml, UnknownKey, NotWhole}
use Rattle.penalty_sheet.specs.declared.sheet.Sheet.{Sheet}
use Rattle.penalty_sheet.specs.Sheets.{AreTablesInOrder, IsRight, document_of, first_fault, keys_ascend, number_fault, sheet_of, tables_said, top_fault, unless_wrong, weights_ascend, whole_or}
use Rattle.cantus_space.specs.declared.prices.CantusPrices.{CantusPrices}
use Rattle.cantus_space.specs.declared.prices.PricedSheet.{PricedSheet}
use Rattle.cantus_space.specs.Prices.{no_prices}

-- the keys of the prices
abbrev pub price_keys : List (List ℕ)
price_keys = codes "C1" ∷ codes "C2" ∷ codes "C3" ∷ codes "C4" ∷ codes "C5" ∷ codes "C6" ∷ []

-- the key of a price, 1 to 6
abbrev pub price_key : ℕ → List ℕ
price_key row = slice_index_or price_keys (row - 1) []

-- the key is that of a price
unfoldable pub is_price_key : List ℕ → Bool
is_price_key key = list_any (λ name. bytes_eq name key) price_keys

-- ---- what is wrong

-- with an entry of the table of prices
abbrev pub price_fault : List ℕ → Data → Option SheetFault
price_fault key value = if is_price_key key then number_fault key (as_integer value) else Some (UnknownKey key)

-- with an entry of the document: beside those of a sheet of weights, `cantus` is a key
abbrev pub key_fault : List ℕ → Data → Option SheetFault
key_fault key value = if bytes_eq key (codes "cantus") then None else top_fault key value

-- ---- what is said

-- the price of a row in a table of prices, or 0 where the table has none for it
abbrev pub price_in : Members → ℕ → ℕ
price_in entries row = whole_or 0 (option_and_then as_integer (get_member (price_key row) entries))

-- the prices of a table of prices
unfoldable pub prices_in : Members → CantusPrices
prices_in entries = record { weights = map (λ i. price_in entries (i + 1)) (range_with_len 0 6) }

-- what the value of `cantus` says; where there is none, each price is 0
abbrev pub prices_said : Option Data → Result CantusPrices SheetFault
prices_said None = Ok no_prices
prices_said (Some (table entries)) = unless_wrong (first_fault price_fault entries) (Ok (prices_in entries))
prices_said (Some (string text)) = Err (NotWhole (codes "cantus"))
prices_said (Some (integer number)) = Err (NotWhole (codes "cantus"))
prices_said (Some (float number)) = Err (NotWhole (codes "cantus"))
prices_said (Some (boolean truth)) = Err (NotWhole (codes "cantus"))
prices_said (Some (datetime date)) = Err (NotWhole (codes "cantus"))
prices_said (Some (array items)) = Err (NotWhole (codes "cantus"))

-- what is said of prices and of weights, where a fault of the prices comes first
abbrev pub both_said : Result CantusPrices SheetFault → Result Sheet SheetFault → Result PricedSheet SheetFault
both_said (Err fault) weights = Err fault
both_said (Ok prices) (Err fault) = Err fault
both_said (Ok prices) (Ok sheet) = Ok (record { sheet = sheet; prices = prices })

-- what a document says
abbrev pub priced_said : Members → Result PricedSheet SheetFault
priced_said top =
    unless_wrong (first_fault key_fault top)
    (both_said (prices_said (get_member (codes "cantus") top)) (tables_said top))

-- what is said by a document, if there is one
abbrev pub priced_by : Option Members → Result PricedSheet SheetFault
priced_by None = Err NotToml
priced_by (Some top) = priced_said top

-- the sheet with prices that bytes are, or what is wrong with them first
unfoldable pub priced_of : List ℕ → Result PricedSheet SheetFault
priced_of bytes = if nat_lt 65536 (length bytes) then Err TooLong else priced_by (document_of bytes)

-- bytes are a sheet with prices
abbrev pub IsPricedSheetOf : List ℕ → PricedSheet → Type 0
IsPricedSheetOf bytes priced = priced_of bytes ≡ Ok priced

-- this is wrong with bytes
abbrev pub HasPricedFault : List ℕ → SheetFault → Type 0
HasPricedFault bytes fault = priced_of bytes ≡ Err fault

-- ---- in which order

-- the keys of a document stand in the order of their bytes, and so do those of its prices, and those
-- of its other tables where nothing is wrong before them
pub record IsInPricedOrder (top : Members) : Type 0 where
  pub keys : keys_ascend top ≡ true
  pub prices : first_fault key_fault top ≡ None → weights_ascend (get_member (codes "cantus") top) ≡ true
  pub tables : first_fault key_fault top ≡ None → IsRight (prices_said (get_member (codes "cantus") top))
      → AreTablesInOrder top

-- the document that bytes are, where they aren't too many for a sheet, stands in order
abbrev pub AreInPricedOrder : List ℕ → Type 0
AreInPricedOrder bytes =
    (top : Members) → document_of bytes ≡ Some top → length bytes ≤ 65536 → IsInPricedOrder top

-- ---- without prices

-- what is said of weights alone, with nothing to be paid
abbrev pub with_no_prices : Result Sheet SheetFault → Result PricedSheet SheetFault
with_no_prices (Ok sheet) = Ok (record { sheet = sheet; prices = no_prices })
with_no_prices (Err fault) = Err fault

-- the document that bytes are, if they are one, hasn't the key `cantus`
abbrev pub HasNoPrices : List ℕ → Type 0
HasNoPrices bytes = (top : Members) → document_of bytes ≡ Some top → get_member (codes "cantus") top ≡ None

-- such bytes say what they say as a sheet of weights
abbrev pub SaysAsBefore : Type 0
SaysAsBefore = (bytes : List ℕ) → HasNoPrices bytes → priced_of bytes ≡ with_no_prices (sheet_of bytes)
