-- Certificates on settings as a subject: a head and, in the second form, entries or, in the third,
-- lists of prices stand in front of claims, which are of prefixes.
use Rattle.std.specs.Prelude.{◌≡◌, ◌⊎◌, ℕ, ◌+◌, ◌-◌, ◌≤◌, ⊤, List, [], ◌++◌, Option, None, Some, IfSome, Err, length, nat_lt, take}
use Rattle.std.specs.Io.{StartsWith}
use Rattle.std.specs.List.{AllByRecursion, flat_map}
use Rattle.cert_law.specs.Certificates.{Holds, IsHeadSound, tree_of}
use Rattle.cert_law.specs.Entries.{AreTrueEntries, IsFirstFalse, entry_count}
use Rattle.cert_law.specs.Writer.{stated_text}
use Rattle.cert_file.specs.Readings.{FaultAtLine, Files, Stated, judged_bytes, longest_piece}
use Rattle.cert_file.specs.declared.verdict.Verdict.{Verdict}
use Rattle.cert_file.specs.declared.verdict.Verdict.TheVariants as verdict
use Rattle.cert_text.specs.declared.answers.Accepted.{Accepted}
use Rattle.cert_text.specs.declared.answers.Accepted.TheVariants as accepted
use Rattle.cert_text.specs.declared.answers.CertFault.{CertFault}
use Rattle.cert_text.specs.declared.answers.CertFault.TheVariants.{CertHead as WrongHead}
use Rattle.cert_text.specs.declared.answers.CertHead.{CertHead}
use Rattle.cert_text.specs.declared.answers.CertHead.TheVariants.{Best, Nothing}
use Rattle.cert_text.specs.declared.answers.Form.{Form}
use Rattle.cert_text.specs.declared.answers.Form.TheVariants.{First, Second, Third}
use Rattle.cert_text.specs.declared.answers.Why.{Why}
use Rattle.cert_text.specs.declared.answers.Why.TheVariants as whys
use Rattle.cert_text.specs.declared.potential.Potential.{Potential}
use Rattle.cert_text.specs.HeadTexts.{Heads, TextStops}
use Rattle.cert_text.specs.declared.claim.Claim.{Claim}
use Rattle.cert_text.specs.Potentials.{IsPotential, potential_line}
use Rattle.cert_tree.specs.Trees.{Tree}
use Rattle.cert_file.specs.Judgments.{IsVerdictBy}
use Rattle.cert_file.specs.Subjects as subjects
use Rattle.cert_file.specs.Subjects.{Subject}
use Rattle.fux_grid.specs.declared.cell.Cell.{Cell}
use Rattle.fux_grid.specs.declared.exercise.Exercise.{Exercise}
use Rattle.fux_port.specs.Files.{HasFile}
use Rattle.penalty_sheet.specs.declared.sheet.Sheet.{Sheet}
use Rattle.price_check.specs.Statements.{HasLargeStated, stated_tree}
use Rattle.price_check.specs.Stated.{AreDue, first_high}
use Rattle.price_check.specs.Lists.{AreLists, lists_in, lists_text}
use Rattle.price_check.specs.PriceLines.{Line}

-- what an accepted head shows
abbrev pub accepted_of : CertHead → Accepted
accepted_of Nothing = accepted.Nothing
accepted_of (Best penalty score) = accepted.Best penalty

-- ---- what stands in front of claims

-- what is stated: a number of each column of the menus, or none of them; or lists of prices, by their
-- lines
pub data Ground : Type 0 where
  Numbers : Option (List Potential) → Ground
  Lists : List Line → Ground

-- the form of a certificate that states this
abbrev pub form_of : Ground → Form
form_of (Numbers None) = First
form_of (Numbers (Some entries)) = Second
form_of (Lists lines) = Third

-- a certificate of the second form states a number below 2^32, or `n`, for the start and for each
-- column of the menus, and one of the third form whole lists
abbrev pub AreStated : Exercise → Ground → Type 0
AreStated ex (Numbers None) = ⊤
AreStated ex (Numbers (Some entries)) = (length entries ≡ entry_count ex) × AllByRecursion IsPotential entries
AreStated ex (Lists lines) = AreLists ex lines

-- its text, through the line `claims`
abbrev pub ground_text : Ground → List ℕ
ground_text (Numbers stated) = stated_text stated
ground_text (Lists lines) = lists_text lines

-- a head with lists is no longer than a piece of a file
abbrev pub IsBrief : Ground → List ℕ → Type 0
IsBrief (Numbers stated) bytes = ⊤
IsBrief (Lists lines) bytes = length bytes ≤ longest_piece

-- the text of a head and of what is stated, through the line `claims`; in the first form the head
-- has that line
pub record IsOpeningOf (ex : Exercise) (head : CertHead) (stated : Ground) (bytes : List ℕ) : Type 0 where
  pub front : List ℕ
  pub heads : Heads ex (form_of stated) front head (length front)
  pub fits : AreStated ex stated
  pub is : bytes ≡ front ++ ground_text stated
  pub short : IsBrief stated bytes

-- an exercise and a sheet
pub record Asked : Type 0 where
  pub exercise : Exercise
  pub sheet : Sheet

-- a head, and what is stated
pub record Opening : Type 0 where
  pub head : CertHead
  pub stated : Ground

abbrev pub IsOpeningText : Exercise → Opening → List ℕ → Type 0
IsOpeningText ex opening bytes = IsOpeningOf ex opening.head opening.stated bytes

-- each entry that is stated is true, and each price is due
abbrev pub AreTrueStated : Exercise → Sheet → Ground → Type 0
AreTrueStated ex sheet (Numbers stated) = IfSome stated (AreTrueEntries ex sheet)
AreTrueStated ex sheet (Lists lines) = AreDue sheet lines

-- none of the lists that are stated keeps too much for a web
abbrev pub AreSmallStated : Exercise → Sheet → Ground → Type 0
AreSmallStated ex sheet (Numbers stated) = ⊤
AreSmallStated ex sheet (Lists lines) = HasLargeStated ex sheet lines → ⊥

-- the head is sound, and so is what is stated
pub record IsSound (ex : Exercise) (sheet : Sheet) (opening : Opening) : Type 0 where
  pub head : IsHeadSound ex sheet opening.head
  pub stated : AreTrueStated ex sheet opening.stated

-- the prefixes, with the claims of them, by what is stated
abbrev pub tree_by : Exercise → Sheet → CertHead → Ground → Tree (List (List Cell)) Claim
tree_by ex sheet head (Numbers stated) = tree_of ex sheet head stated
tree_by ex sheet head (Lists lines) = stated_tree ex sheet head lines

-- ---- what is refused before any claim is judged

-- behind a head of the third form no lists go on at a byte of the first piece, so many bytes before
-- its end
pub record ListsStop (ex : Exercise) (bytes : List ℕ) (at : ℕ) : Type 0 where
  pub front : List ℕ
  pub head : CertHead
  pub heads : Heads ex Third front head (length front)
  pub rest : List ℕ
  pub is : take longest_piece bytes ≡ front ++ rest
  pub left : ℕ
  pub stop : lists_in ex rest ≡ Err left
  pub place : at ≡ length front + length rest - left

-- behind a head stand lists, with the line `claims`
pub record HasLists (ex : Exercise) (head : CertHead) (bytes : List ℕ) : Type 0 where
  pub lines : List Line
  pub opening : List ℕ
  pub opens : IsOpeningOf ex head (Lists lines) opening
  pub begins : StartsWith bytes opening

-- lists stand behind a head of the third form
abbrev pub IsListed : Exercise → Form → CertHead → List ℕ → Type 0
IsListed ex First head bytes = ⊤
IsListed ex Second head bytes = ⊤
IsListed ex Third head bytes = HasLists ex head bytes

-- the head stands at the front, in the third form with its lists, and isn't sound
pub record IsUnsound (ex : Exercise) (sheet : Sheet) (head : CertHead) (number : ℕ) (bytes : List ℕ) : Type 0 where
  pub numbered : number ≡ 0
  pub form : Form
  pub front : List ℕ
  pub begins : StartsWith bytes front
  pub heads : Heads ex form front head (length front)
  pub listed : IsListed ex form head bytes
  pub unsound : IsHeadSound ex sheet head → ⊥

-- behind a sound head stands the text of what is stated, and the entry of this number is the first
-- that isn't true
pub record HasUntrue (ex : Exercise) (sheet : Sheet) (head : CertHead) (number : ℕ) (bytes : List ℕ) : Type 0 where
  pub sound : IsHeadSound ex sheet head
  pub entries : List Potential
  pub opening : List ℕ
  pub opens : IsOpeningOf ex head (Numbers (Some entries)) opening
  pub begins : StartsWith (judged_bytes bytes) opening
  pub before : ℕ
  pub numbered : number ≡ before + 1
  pub first : IsFirstFalse ex sheet entries before

-- behind a sound head stand lists, and the price of this number over all of them is the first that
-- isn't due
pub record HasHigh (ex : Exercise) (sheet : Sheet) (head : CertHead) (number : ℕ) (bytes : List ℕ) : Type 0 where
  pub sound : IsHeadSound ex sheet head
  pub lists : HasLists ex head bytes
  pub before : ℕ
  pub numbered : number ≡ before + 1
  pub first : first_high sheet lists.lines ≡ Some before

-- behind a sound head stand lists whose prices are due, and one of them keeps too much for a web
pub record HasLargeLists (ex : Exercise) (sheet : Sheet) (bytes : List ℕ) : Type 0 where
  pub head : CertHead
  pub sound : IsHeadSound ex sheet head
  pub lists : HasLists ex head bytes
  pub due : AreDue sheet lists.lines
  pub large : HasLargeStated ex sheet lists.lines

-- behind a sound head and some entries, each of them a number or `n`, stands a line that isn't the
-- one owed: that of an entry, or the line `claims` where there are as many as there are to be
pub record HasStatedFault (ex : Exercise) (sheet : Sheet) (head : CertHead) (fault : CertFault) (bytes : List ℕ) : Type
    0 where
  pub sound : IsHeadSound ex sheet head
  pub front : List ℕ
  pub heads : Heads ex Second front head (length front)
  pub entries : List Potential
  pub few : length entries ≤ entry_count ex
  pub fits : AllByRecursion IsPotential entries
  pub fault_at : FaultAtLine (Stated (nat_lt (length entries) (entry_count ex)))
      (front ++ flat_map potential_line entries) fault bytes

-- why a head is refused as claim 0, or an entry or a price
abbrev pub RefusesFront : Exercise → Sheet → CertHead → ℕ → Why → List ℕ → Type 0
RefusesFront ex sheet head number whys.Head bytes = IsUnsound ex sheet head number bytes
RefusesFront ex sheet head number whys.Potential bytes = HasUntrue ex sheet head number bytes
RefusesFront ex sheet head number whys.Price bytes = HasHigh ex sheet head number bytes
RefusesFront ex sheet head number why bytes = ⊥

-- what a verdict says of bytes whose front is refused: no head stands there, or no lists behind one
-- of the third form, the head isn't sound, an entry isn't true, a price isn't due, or a line isn't the
-- one that is owed
abbrev pub Refuses : Exercise → Sheet → Verdict → List ℕ → Type 0
Refuses ex sheet (verdict.Text (WrongHead at)) bytes = TextStops ex Third bytes at ⊎ ListsStop ex bytes at
Refuses ex sheet (verdict.Text fault) bytes = (head : CertHead) × HasStatedFault ex sheet head fault bytes
Refuses ex sheet (verdict.Claim refused) bytes =
    (head : CertHead) × RefusesFront ex sheet head refused.number refused.why bytes
Refuses ex sheet (verdict.Accepted answer) bytes = ⊥

-- ---- the subject

abbrev pub setting_subject : Asked → Subject Opening (List (List Cell))
setting_subject asked = record {
  IsHead = IsOpeningText asked.exercise;
  IsSound = IsSound asked.exercise asked.sheet;
  Refuses = Refuses asked.exercise asked.sheet;
  tree = λ opening. tree_by asked.exercise asked.sheet opening.head opening.stated;
  root = [];
  accepted = λ opening. accepted_of opening.head;
  Holds = λ opening. Holds asked.exercise asked.sheet opening.head;
}

-- the text of a valid certificate of any form, no longer than one may be
pub record IsCertificateText (ex : Exercise) (sheet : Sheet) (head : CertHead) (bytes : List ℕ) : Type 0 where
  pub stated : Ground
  pub is : subjects.IsCertificateText (setting_subject record { exercise = ex; sheet = sheet })
      (record { head = head; stated = stated }) bytes

-- what a verdict says of bytes
abbrev pub IsVerdictOn : Exercise → Sheet → Verdict → List ℕ → Type 0
IsVerdictOn ex sheet = IsVerdictBy (setting_subject record { exercise = ex; sheet = sheet })

-- a verdict accepts the file with a head, where it is the text of a valid certificate
abbrev pub AcceptsValid : Exercise → Sheet → CertHead → Files → List ℕ → Verdict → Type 0
AcceptsValid ex sheet head files name it =
    (bytes : List ℕ) → HasFile files name bytes → IsCertificateText ex sheet head bytes
    → it ≡ verdict.Accepted (accepted_of head)
