-- What a sheet with prices says, by what its bytes are.
use Rattle.std.proofs.Common.{◌≡◌, ◌≢◌, ℕ, ◌<◌, ◌≤◌, Bool, List, length, true, false, nat_lt, Option, None, Some, Result, Ok, Err, IfErr, codes, refl, ap, sym, ◌∙◌, arith, true≢false}
use Rattle.std.specs.Prelude.{if◌then◌else◌}
use Rattle.std.specs.Ordering.{is_eq, match_ordering, nat_cmp}
use Rattle.std.specs.Str.{bytes_eq}
use Rattle.std.specs.Cmp.Lexicographic.{slice_cmp}
use Rattle.std.specs.declared.cmp.Ordering.{Ordering}
use Rattle.std.specs.declared.cmp.Ordering.TheVariants.{Less, Equal, Greater}
use Rattle.std.proofs.lemmas.Bool.Decides.{nat_tests}
use Rattle.std.proofs.lemmas.Map.Text.{is_eq-slice_cmp}
use Rattle.std.proofs.lemmas.Slice.Eq.{bytes_eq-Decides}
use Rattle.toml.specs.Data.{Data, Members, no_members, member, get_member}
use Rattle.penalty_sheet.specs.declared.fault.SheetFault.{SheetFault}
use Rattle.penalty_sheet.specs.declared.fault.SheetFault.TheVariants.{TooLong, NotToml, UnknownKey, NotWhole, Weight, Memory}
use Rattle.penalty_sheet.specs.declared.sheet.Sheet.{Sheet}
use Rattle.penalty_sheet.specs.Sheets.{document_of, document_said, fault_or, first_fault, said_by, sheet_of, tables_said, top_fault, unless_wrong}
use Rattle.cantus_space.specs.declared.prices.PricedSheet.{PricedSheet}
use Rattle.cantus_space.specs.Prices.{no_prices}
use Rattle.cantus_space.specs.PricedSheets.{HasPricedFault, IsPricedSheetOf, SaysAsBefore, both_said, key_fault, priced_by, priced_of, priced_said, prices_said, with_no_prices}

-- too many bytes
pub long_sheet : (bytes : List ℕ) → 65536 < length bytes → priced_of bytes ≡ Err TooLong
unfolding priced_of
long_sheet bytes h =
    let test : nat_lt 65536 (length bytes) ≡ true = grind (arith, nat_tests) in
    ap (λ b. if b then Err TooLong else priced_by (document_of bytes)) test

-- as many as there may be
pub short_sheet : (bytes : List ℕ) → length bytes ≤ 65536 → priced_of bytes ≡ priced_by (document_of bytes)
unfolding priced_of
short_sheet bytes h =
    let test : nat_lt 65536 (length bytes) ≡ false = grind (arith, nat_tests) in
    ap (λ b. if b then Err TooLong else priced_by (document_of bytes)) test

-- bytes that are a sheet have no fault, so what is answered in its place is want of memory
not_at_fault : (bytes : List ℕ) (priced : PricedSheet) (fault : SheetFault) → (fault ≢ Memory
    → priced_of bytes ≡ Err fault) → priced_of bytes ≡ Ok priced → fault ≡ Memory
not_at_fault bytes priced Memory told is = refl
not_at_fault bytes priced TooLong told is = let h = told (λ e. cc) in cc
not_at_fault bytes priced NotToml told is = let h = told (λ e. cc) in cc
not_at_fault bytes priced (UnknownKey key) told is = let h = told (λ e. cc) in cc
not_at_fault bytes priced (NotWhole key) told is = let h = told (λ e. cc) in cc
not_at_fault bytes priced (Weight key value) told is = let h = told (λ e. cc) in cc

pub only_memory : (bytes : List ℕ) (priced : PricedSheet) (result : Result PricedSheet SheetFault)
    → IfErr result (λ fault. fault ≢ Memory → HasPricedFault bytes fault)
    → IsPricedSheetOf bytes priced → IfErr result (λ fault. fault ≡ Memory)
only_memory bytes priced (Ok other) told is = tt
only_memory bytes priced (Err fault) told is = not_at_fault bytes priced fault told is

-- ---- without prices

-- a member that isn't found has another key
not_here : (o : Ordering) (found : Option Data) (here : Data) → match_ordering o found (Some here) found ≡ None
    → (found ≡ None) × (is_eq o ≡ false)
not_here Less found here e = (e, refl)
not_here Equal found here e = cc
not_here Greater found here e = (e, refl)

other_way : (xs ys : List ℕ) (b : Bool) → bytes_eq ys xs ≡ b → bytes_eq xs ys ≡ false → b ≡ false
other_way xs ys true e apart =
    let same : ys ≡ xs = (bytes_eq-Decides ys xs).0 e in
    absurd (true≢false (sym ((bytes_eq-Decides xs ys).1 (sym same)) ∙ apart))
other_way xs ys false e apart = refl

pub same_faults : (top : Members) → get_member (codes "cantus") top ≡ None
    → first_fault key_fault top ≡ first_fault top_fault top
same_faults no_members none = refl
same_faults (member key value rest) none =
    let parts = not_here (slice_cmp nat_cmp (codes "cantus") key) (get_member (codes "cantus") rest) value none in
    let apart : bytes_eq key (codes "cantus") ≡ false =
    other_way (codes "cantus") key (bytes_eq key (codes "cantus")) refl
    (sym (is_eq-slice_cmp (codes "cantus") key) ∙ parts.1)
    in
    ap (λ b. fault_or (if b then None else top_fault key value) (first_fault key_fault rest)) apart
    ∙ ap (λ f. fault_or (top_fault key value) f) (same_faults rest parts.0)

with_none : (fault : Option SheetFault) (said : Result Sheet SheetFault)
    → unless_wrong fault (both_said (Ok no_prices) said) ≡ with_no_prices (unless_wrong fault said)
with_none None (Ok sheet) = refl
with_none None (Err fault) = refl
with_none (Some fault) said = refl

-- a document without prices says what it said
pub said_before : (top : Members) → get_member (codes "cantus") top ≡ None → priced_said top
    ≡ with_no_prices (document_said top)
said_before top none =
    ap (λ f. unless_wrong f
    (both_said (prices_said (get_member (codes "cantus") top)) (tables_said top)))
    (same_faults top none)
    ∙ ap (λ o. unless_wrong (first_fault top_fault top)
    (both_said (prices_said o) (tables_said top))) none
    ∙ with_none (first_fault top_fault top) (tables_said top)

pub says_as_before : SaysAsBefore
unfolding priced_of sheet_of
says_as_before bytes none = at (nat_lt 65536 (length bytes)) (document_of bytes) refl
  where
    at : (b : Bool) (o : Option Members) → document_of bytes ≡ o
        → (if b then Err TooLong else priced_by o) ≡ with_no_prices (if b then Err TooLong else said_by o)
    at true o e = refl
    at false None e = refl
    at false (Some top) e = said_before top (none top e)
