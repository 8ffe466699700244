-- The certificates of the third form that are written, and how the writing of one ends.
use Rattle.std.specs.Prelude.{◌≡◌, ℕ, ◌⊎◌, ◌<◌, ◌≤◌, false, List, [], ◌++◌, Option, Result, Err, length}
use Rattle.std.specs.List.{AllByRecursion}
use Rattle.cert_law.specs.Certificates.{IsHeadSound}
use Rattle.cert_law.specs.Writer.{head_text}
use Rattle.cert_text.specs.declared.answers.CertHead.{CertHead}
use Rattle.cert_text.specs.declared.answers.Form.TheVariants.{Third}
use Rattle.cert_text.specs.declared.claim.Claim.{Claim}
use Rattle.cert_text.specs.Lines.{IsClaim}
use Rattle.cert_tree.specs.Trees.{IsCertifiedFrom, claims_from}
use Rattle.cert_file.specs.Writing.{claim_lines}
use Rattle.fux_grid.specs.declared.exercise.Exercise.{Exercise}
use Rattle.fux_grid.specs.Exercises.{columns_in}
use Rattle.fux_port.specs.Written.{StopsShort, appended}
use Rattle.cert_writer.specs.Stating.{FitBehind}
use Rattle.open_ends.specs.Choices.{keeps_of}
use Rattle.open_ends.specs.declared.keeps.Keeps.{Keeps}
use Rattle.penalty_sheet.specs.declared.sheet.Sheet.{Sheet}
use Rattle.price_check.specs.Sharps.{Sharp, own_in, tree_in}
use Rattle.price_check.specs.Statements.{HasLargeStated, stated_tree}
use Rattle.priced_paths.specs.declared.states.WebFault.{WebFault}
use Rattle.priced_paths.specs.declared.states.WebFault.TheVariants as webs
use Rattle.price_check.specs.Lists.{lists_text}
use Rattle.price_check.specs.PriceLines.{Line}
use Rattle.cert_writer.specs.declared.answers.PricesWrite.{PricesWrite}
use Rattle.cert_writer.specs.declared.answers.PricesWrite.TheVariants.{Memory, TooLarge, TooLong}

-- the bytes are the text of a valid certificate with this head: the head's text, lists that may stand
-- behind it, whose prices are due and none of which keeps too much for a web, and claims by what they
-- state
pub record IsPricedCertificateOf (ex : Exercise) (sheet : Sheet) (head : CertHead) (bytes : List ℕ) : Type 0 where
  pub sound : IsHeadSound ex sheet head
  pub lines : List Line
  pub fit : FitBehind ex sheet (head_text ex Third head) lines
  pub small : HasLargeStated ex sheet lines → ⊥
  pub claims : List Claim
  pub have_lines : AllByRecursion IsClaim claims
  pub certified : IsCertifiedFrom (stated_tree ex sheet head lines) [] claims
  pub written : bytes ≡ (head_text ex Third head ++ lists_text lines) ++ claim_lines claims

-- the least that a list keeps: nothing beside what always is
abbrev pub least_kept : Keeps
least_kept = keeps_of false false

-- the most bytes that the text of a head has
abbrev pub longest_head : ℕ
longest_head = 4876

-- ---- how the writing of one ends

-- the lists are the writer's choice: of the certificate of some this holds
pub record OfPriced (ex : Exercise) (sheet : Sheet) (head : CertHead) (Ends : List ℕ → Type 0) : Type 0 where
  pub bytes : List ℕ
  pub certificate : IsPricedCertificateOf ex sheet head bytes
  pub ends : Ends bytes

-- the most bytes that a certificate may have
abbrev pub most_bytes : ℕ
most_bytes = 1073741824

-- all of it is written, and it is no longer than one may be
abbrev pub IsWhole : Option (List ℕ) → Option (List ℕ) → List ℕ → Type 0
IsWhole old new bytes = (length bytes ≤ most_bytes) × (new ≡ appended old bytes)

-- less than all of it is written, with the cause
abbrev pub IsCut : (ℕ → Type 0) → Option (List ℕ) → Option (List ℕ) → List ℕ → Type 0
IsCut Cause old new bytes = (length bytes ≤ most_bytes) × Cause (length bytes) × StopsShort old new bytes

-- it is longer than one may be
abbrev pub IsOverlong : List ℕ → Type 0
IsOverlong bytes = most_bytes < length bytes

-- what is written of a case with lists behind a text: of each prefix that is owed the first claim
-- that is true of it
abbrev pub with_claims : List ℕ → Sharp → List ℕ
with_claims text s = text ++ claim_lines (claims_from (tree_in s) (own_in s) (columns_in s.case.exercise) [])

-- why there are no webs is why nothing is written
abbrev pub web_answer : WebFault → PricesWrite
web_answer webs.TooLarge = TooLarge
web_answer webs.Memory = Memory

-- it ends before the first byte: the certificate is too long, a web too large, or memory is wanting
abbrev pub EndsUnwritten : Result (Unit {0}) PricesWrite → Type 0
EndsUnwritten result = (result ≡ Err TooLong) ⊎ ((result ≡ Err TooLarge) ⊎ (result ≡ Err Memory))
