-- What is written by lists of prices for a head that holds.
use Rattle.std.specs.Prelude.{List, []}
use Rattle.std.specs.List.{AllByRecursion}
use Rattle.cert_law.specs.Certificates.{Holds}
use Rattle.cert_text.specs.declared.answers.CertHead.{CertHead}
use Rattle.cert_text.specs.declared.claim.Claim.{Claim}
use Rattle.cert_tree.specs.Trees.{AreTrueFrom, claims_from}
use Rattle.fux_grid.specs.declared.exercise.Exercise.{Exercise}
use Rattle.fux_grid.specs.Exercises.{IsValid, columns_in}
use Rattle.penalty_sheet.specs.declared.sheet.Sheet.{Sheet}
use Rattle.price_check.specs.Certificates.{IsFairList, IsSharpCertificate, sharp_tree}
use Rattle.price_check.specs.PriceLists.{PriceList}
use Rattle.price_check.specs.Truths.{sharp_first_claim}

-- the claims that are written: of each prefix that is owed the first one that is true of it
abbrev pub priced_claims : Exercise → Sheet → CertHead → List PriceList → List Claim
priced_claims ex sheet head lists =
    claims_from (sharp_tree ex sheet head lists) (sharp_first_claim ex sheet head lists) (columns_in ex) []

-- each of them is true, whatever the prices are
abbrev pub FirstClaimsAreTrue : Type 0
FirstClaimsAreTrue = (ex : Exercise) (sheet : Sheet) (head : CertHead) (lists : List PriceList) → IsValid ex
    → Holds ex sheet head
    → AreTrueFrom (sharp_tree ex sheet head lists) (sharp_first_claim ex sheet head lists) (columns_in ex) []

-- where what is charged is due, they are those of a valid certificate
abbrev pub WrittenIsValid : Type 0
WrittenIsValid = (ex : Exercise) (sheet : Sheet) (head : CertHead) (lists : List PriceList) → IsValid ex
    → Holds ex sheet head → AllByRecursion (IsFairList sheet) lists
    → IsSharpCertificate ex sheet head lists (priced_claims ex sheet head lists)
