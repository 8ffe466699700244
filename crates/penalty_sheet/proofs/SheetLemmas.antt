-- What a sheet says, by what its bytes are.
use Rattle.std.proofs.Common.{◌≡◌, ◌≢◌, ℕ, ◌<◌, ◌≤◌, List, length, true, false, nat_lt, Result, Ok, Err, IfErr, refl, ap, arith}
use Rattle.std.specs.Prelude.{if◌then◌else◌}
use Rattle.std.proofs.lemmas.Bool.Decides.{nat_tests}
use Rattle.toml.specs.Data.{no_members}
use Rattle.penalty_sheet.specs.declared.fault.SheetFault.{SheetFault}
use Rattle.penalty_sheet.specs.declared.fault.SheetFault.TheVariants.{TooLong, NotToml, UnknownKey, NotWhole, Weight, Memory}
use Rattle.penalty_sheet.specs.declared.sheet.Sheet.{Sheet}
use Rattle.penalty_sheet.specs.Weights.{default_weights}
use Rattle.penalty_sheet.specs.Sheets.{HasSheetFault, IsSheetOf, document_of, said_by, sheet_in, sheet_of}

-- too many bytes
pub long_sheet : (bytes : List ℕ) → 65536 < length bytes → sheet_of bytes ≡ Err TooLong
unfolding sheet_of
long_sheet bytes h =
    let test : nat_lt 65536 (length bytes) ≡ true = grind (arith, nat_tests) in
    ap (λ b. if b then Err TooLong else said_by (document_of bytes)) test

-- as many as there may be
pub short_sheet : (bytes : List ℕ) → length bytes ≤ 65536 → sheet_of bytes ≡ said_by (document_of bytes)
unfolding sheet_of
short_sheet bytes h =
    let test : nat_lt 65536 (length bytes) ≡ false = grind (arith, nat_tests) in
    ap (λ b. if b then Err TooLong else said_by (document_of bytes)) test

-- a document without weights
pub default_sheet_in : sheet_in no_members 0 ≡ record { weights = default_weights }
unfolding sheet_in
default_sheet_in = refl

-- bytes that are a sheet have no fault, so what is answered in its place is want of memory
not_at_fault : (bytes : List ℕ) (sheet : Sheet) (fault : SheetFault) → (fault ≢ Memory
    → sheet_of bytes ≡ Err fault) → sheet_of bytes ≡ Ok sheet → fault ≡ Memory
not_at_fault bytes sheet Memory told is = refl
not_at_fault bytes sheet TooLong told is = let h = told (λ e. cc) in cc
not_at_fault bytes sheet NotToml told is = let h = told (λ e. cc) in cc
not_at_fault bytes sheet (UnknownKey key) told is = let h = told (λ e. cc) in cc
not_at_fault bytes sheet (NotWhole key) told is = let h = told (λ e. cc) in cc
not_at_fault bytes sheet (Weight key value) told is = let h = told (λ e. cc) in cc

pub only_memory : (bytes : List ℕ) (sheet : Sheet) (result : Result Sheet SheetFault)
    → IfErr result (λ fault. fault ≢ Memory → HasSheetFault bytes fault)
    → IsSheetOf bytes sheet → IfErr result (λ fault. fault ≡ Memory)
only_memory bytes sheet (Ok other) told is = tt
only_memory bytes sheet (Err fault) told is = not_at_fault bytes sheet fault told is
