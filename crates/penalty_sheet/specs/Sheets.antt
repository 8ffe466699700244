-- What a text says of the weights: a sheet, or what is wrong with it. A document is what the crate
-- `toml` says one is.
use Rattle.std.specs.Prelude.{◌≡◌, ℕ, ◌+◌, ◌-◌, ◌≤◌, ◌==◌, Bool, true, ◌&&◌, ◌||◌, length, List, [], ◌∷◌, ◌++◌, ℤ, pos, negsuc, nat_le, nat_lt, if◌then◌else◌, map, codes, slice_index, slice_index_or, Option, Some, None, Result, Ok, Err}
use Rattle.std.specs.Option.{option_and_then}
use Rattle.std.specs.Fmt.{signed_decimal}
use Rattle.std.specs.List.{list_any, range_with_len}
use Rattle.std.specs.Str.{bytes_eq, is_utf8}
use Rattle.toml.specs.Data.{Data, string, integer, float, boolean, datetime, array, table, Members, no_members, member, get_member, as_integer, is_before}
use Rattle.toml.specs.Parse.{parse_document}
use Rattle.penalty_sheet.specs.declared.fault.SheetFault.{SheetFault}
use Rattle.penalty_sheet.specs.declared.fault.SheetFault.TheVariants.{TooLong, NotToml, UnknownKey, NotWhole, Weight, Memory}
use Rattle.penalty_sheet.specs.declared.sheet.Sheet.{Sheet}
use Rattle.penalty_sheet.specs.Weights.{default_weights}

-- the keys of the tolls that the table of weights may have; Q21 stands in a table of its own
abbrev pub toll_keys : List (List ℕ)
toll_keys =
    codes "Q1" ∷ codes "Q2" ∷ codes "Q3" ∷ codes "Q4" ∷ codes "Q5" ∷ codes "Q6" ∷ codes "Q7" ∷ codes "Q8"
    ∷ codes "Q9" ∷ codes "Q10" ∷ codes "Q11" ∷ codes "Q12" ∷ codes "Q13" ∷ codes "Q14" ∷ codes "Q15"
    ∷ codes "Q16" ∷ codes "Q17" ∷ codes "Q18" ∷ codes "Q19" ∷ codes "Q20" ∷ []

-- the key of a toll, 1 to 20
abbrev pub toll_key : ℕ → List ℕ
toll_key toll = slice_index_or toll_keys (toll - 1) []

-- the key is that of a toll
unfoldable pub is_toll_key : List ℕ → Bool
is_toll_key key = list_any (λ name. bytes_eq name key) toll_keys

-- ---- what is wrong

-- with the number of a key of the table of weights
abbrev pub number_fault : List ℕ → Option ℤ → Option SheetFault
number_fault key None = Some (NotWhole key)
number_fault key (Some (pos n)) = if nat_le n 10000 then None else Some (Weight key (pos n))
number_fault key (Some (negsuc n)) = Some (Weight key (negsuc n))

-- with an entry of the table of weights
abbrev pub entry_fault : List ℕ → Data → Option SheetFault
entry_fault key value = if is_toll_key key then number_fault key (as_integer value) else Some (UnknownKey key)

-- with an entry of the table of further weights, which has one key
abbrev pub more_fault : List ℕ → Data → Option SheetFault
more_fault key value =
    if bytes_eq key (codes "Q21") then number_fault key (as_integer value) else Some (UnknownKey key)

-- with an entry of the document
abbrev pub top_fault : List ℕ → Data → Option SheetFault
top_fault key value =
    if bytes_eq key (codes "more") || bytes_eq key (codes "weights") then None else Some (UnknownKey key)

-- the fault there is, or else another
abbrev pub fault_or : Option SheetFault → Option SheetFault → Option SheetFault
fault_or (Some fault) other = Some fault
fault_or None other = other

-- with the first entry at fault
abbrev pub first_fault : (List ℕ → Data → Option SheetFault) → Members → Option SheetFault
first_fault wrong no_members = None
first_fault wrong (member key value rest) = fault_or (wrong key value) (first_fault wrong rest)

-- ---- in which order

-- the keys of entries stand in the order of their bytes: each comes before the next one
abbrev pub keys_ascend : Members → Bool
keys_ascend no_members = true
keys_ascend (member key value rest) = is_before key rest && keys_ascend rest

-- so do those of a table of weights, where there is one
abbrev pub weights_ascend : Option Data → Bool
weights_ascend None = true
weights_ascend (Some (table entries)) = keys_ascend entries
weights_ascend (Some (string text)) = true
weights_ascend (Some (integer number)) = true
weights_ascend (Some (float number)) = true
weights_ascend (Some (boolean truth)) = true
weights_ascend (Some (datetime date)) = true
weights_ascend (Some (array items)) = true

-- ---- what is said

-- a whole number from 0 on, or another number
abbrev pub whole_or : ℕ → Option ℤ → ℕ
whole_or otherwise None = otherwise
whole_or otherwise (Some (pos n)) = n
whole_or otherwise (Some (negsuc n)) = otherwise

-- the weight of a toll in a table of weights, or another where the table has none for it
abbrev pub weight_in : Members → ℕ → ℕ → ℕ
weight_in entries toll otherwise = whole_or otherwise (option_and_then as_integer (get_member (toll_key toll) entries))

-- the weight of toll i + 1 by a table of weights, and of Q21 as it is given
abbrev pub weight_by : Members → ℕ → ℕ → ℕ
weight_by entries more i = if i == 20 then more else weight_in entries (i + 1) (slice_index default_weights i)

-- the sheet of a table of weights, with the weight of Q21
unfoldable pub sheet_in : Members → ℕ → Sheet
sheet_in entries more = record { weights = map (weight_by entries more) (range_with_len 0 21) }

-- what is said where nothing is wrong
abbrev pub unless_wrong : {A : Type 0} → Option SheetFault → Result A SheetFault → Result A SheetFault
unless_wrong None said = said
unless_wrong (Some fault) said = Err fault

-- what the value of `weights` says, with the weight of Q21; where there is none, each toll has its
-- default
abbrev pub weights_said : ℕ → Option Data → Result Sheet SheetFault
weights_said more None = Ok (sheet_in no_members more)
weights_said more (Some (table entries)) = unless_wrong (first_fault entry_fault entries) (Ok (sheet_in entries more))
weights_said more (Some (string text)) = Err (NotWhole (codes "weights"))
weights_said more (Some (integer number)) = Err (NotWhole (codes "weights"))
weights_said more (Some (float number)) = Err (NotWhole (codes "weights"))
weights_said more (Some (boolean truth)) = Err (NotWhole (codes "weights"))
weights_said more (Some (datetime date)) = Err (NotWhole (codes "weights"))
weights_said more (Some (array items)) = Err (NotWhole (codes "weights"))

-- the weight of Q21 in a table of further weights, or 0 where the table has none for it
abbrev pub more_in : Members → ℕ
more_in entries = whole_or 0 (option_and_then as_integer (get_member (codes "Q21") entries))

-- what the value of `more` says; where there is none, Q21 weighs nothing
abbrev pub more_said : Option Data → Result ℕ SheetFault
more_said None = Ok 0
more_said (Some (table entries)) = unless_wrong (first_fault more_fault entries) (Ok (more_in entries))
more_said (Some (string text)) = Err (NotWhole (codes "more"))
more_said (Some (integer number)) = Err (NotWhole (codes "more"))
more_said (Some (float number)) = Err (NotWhole (codes "more"))
more_said (Some (boolean truth)) = Err (NotWhole (codes "more"))
more_said (Some (datetime date)) = Err (NotWhole (codes "more"))
more_said (Some (array items)) = Err (NotWhole (codes "more"))

-- what is said with the weight of Q21, where nothing is wrong with that
abbrev pub said_with : Result ℕ SheetFault → (ℕ → Result Sheet SheetFault) → Result Sheet SheetFault
said_with (Ok more) said = said more
said_with (Err fault) said = Err fault

-- what the tables of a document say: a fault of `more` comes first
abbrev pub tables_said : Members → Result Sheet SheetFault
tables_said top =
    said_with (more_said (get_member (codes "more") top)) (λ more. weights_said more (get_member (codes "weights") top))

-- what a document says
abbrev pub document_said : Members → Result Sheet SheetFault
document_said top = unless_wrong (first_fault top_fault top) (tables_said top)

-- the document that bytes are, if they are one
abbrev pub document_of : List ℕ → Option Members
document_of bytes = if is_utf8 bytes then parse_document bytes else None

-- nothing is wrong with what is said
abbrev pub IsRight : {A : Type 0} → Result A SheetFault → Type 0
IsRight (Ok said) = Unit {0}
IsRight (Err fault) = ⊥

-- the keys of the tables of a document stand in the order of their bytes: those of `more`, and those
-- of `weights` where nothing is wrong before them
pub record AreTablesInOrder (top : Members) : Type 0 where
  pub more : weights_ascend (get_member (codes "more") top) ≡ true
  pub weights : IsRight (more_said (get_member (codes "more") top))
      → weights_ascend (get_member (codes "weights") top) ≡ true

-- the keys of a document stand in the order of their bytes, and so do those of its tables
pub record IsInOrder (top : Members) : Type 0 where
  pub keys : keys_ascend top ≡ true
  pub tables : first_fault top_fault top ≡ None → AreTablesInOrder top

-- the document that bytes are, where they aren't too many for a sheet, stands in order
abbrev pub AreInOrder : List ℕ → Type 0
AreInOrder bytes = (top : Members) → document_of bytes ≡ Some top → length bytes ≤ 65536 → IsInOrder top

-- what is said by a document, if there is one
abbrev pub said_by : Option Members → Result Sheet SheetFault
said_by None = Err NotToml
said_by (Some top) = document_said top

-- the sheet that bytes are, or what is wrong with them first
unfoldable pub sheet_of : List ℕ → Result Sheet SheetFault
sheet_of bytes = if nat_lt 65536 (length bytes) then Err TooLong else said_by (document_of bytes)

-- bytes are a sheet
abbrev pub IsSheetOf : List ℕ → Sheet → Type 0
IsSheetOf bytes sheet = sheet_of bytes ≡ Ok sheet

-- this is wrong with bytes
abbrev pub HasSheetFault : List ℕ → SheetFault → Type 0
HasSheetFault bytes fault = sheet_of bytes ≡ Err fault

-- ---- how it is told

-- the words for a fault
abbrev pub fault_text : SheetFault → List ℕ
fault_text TooLong = codes "too long"
fault_text NotToml = codes "not toml"
fault_text (UnknownKey key) = codes "unknown key " ++ key
fault_text (NotWhole key) = codes "not whole " ++ key
fault_text (Weight key value) = codes "weight " ++ key ++ codes " " ++ signed_decimal value
fault_text Memory = codes "out of memory"
