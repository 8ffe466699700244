-- What `certify` makes of an exercise, over a sheet of weights.
use Rattle.std.specs.Prelude.{◌≡◌, ◌≢◌, ◌⊎◌, ℕ, ◌<◌, ◌≤◌, List, Option, Ok, Err, IfSome, length}
use Rattle.std.specs.Borrow.{Bor}
use Rattle.std.specs.List.{AllByRecursion}
use Rattle.cert_check.specs.Settings.{AreSmallStated, IsCertificateText, form_of}
use Rattle.cert_file.specs.Readings.{longest_certificate}
use Rattle.cert_law.specs.Certificates.{IsCertificate}
use Rattle.cert_law.specs.Rests.{stated_in}
use Rattle.cert_law.specs.Writer.{claims_of, written_certificate}
use Rattle.cert_writer.specs.Heads.{head_with}
use Rattle.floor_tables.specs.Tables.{Task}
use Rattle.cert_text.specs.declared.answers.CertHead.{CertHead}
use Rattle.cert_text.specs.declared.answers.CertHead.TheVariants.{Best, Nothing}
use Rattle.cert_text.specs.declared.answers.Form.{Form}
use Rattle.cert_text.specs.declared.answers.Form.TheVariants.{First, Second, Third}
use Rattle.cert_text.specs.Potentials.{IsPotential}
use Rattle.fux_grid.specs.declared.exercise.Exercise.{Exercise}
use Rattle.fux_grid.specs.Grid.{Grid}
use Rattle.penalty_sheet.specs.declared.sheet.Sheet.{Sheet}
use Rattle.price_check.specs.Woven.{IsLargeWeb}
use Rattle.cert_writer.specs.Certificates.{IsPricedCertificateOf, least_kept}
use Rattle.works.specs.declared.refusal.Refusal.{Refusal}
use Rattle.works.specs.declared.refusal.Refusal.TheVariants.{LargeGraph, LongCertificate}
use Rattle.works.specs.declared.work.Output.{Output}
use Rattle.works.specs.declared.work.Verdict.{Verdict}
use Rattle.works.specs.declared.work.Verdict.TheVariants.{Spent}
use Rattle.works.specs.Composed.{TellsAs}
use Rattle.works.specs.Searched.{IsBestFor, IsBestFound, IsBoundFor, IsNarrow, IsNothingFor, RefusesWidth}
use Rattle.works.specs.Texts.{Work}

-- the bytes are the certificate of a form by numbers, the first or the second, that is written for a
-- head, which is valid; each number that it states is below 2^32
pub record IsCertificateByNumbers (ex : Exercise) (sheet : Sheet) (form : Form) (head : CertHead) (bytes : List ℕ)
    : Type 0 where
  pub valid : IsCertificate ex sheet head (stated_in form ex sheet) (claims_of ex sheet head)
  pub small : IfSome (stated_in form ex sheet) (AllByRecursion IsPotential)
  pub written : bytes ≡ written_certificate ex sheet form head

-- the bytes are a valid certificate of a form with this head: by numbers, or in the third form by
-- prices
abbrev pub IsCertificateOf : Exercise → Sheet → Form → CertHead → List ℕ → Type 0
IsCertificateOf ex sheet First head bytes = IsCertificateByNumbers ex sheet First head bytes
IsCertificateOf ex sheet Second head bytes = IsCertificateByNumbers ex sheet Second head bytes
IsCertificateOf ex sheet Third head bytes = IsPricedCertificateOf ex sheet head bytes

-- the bytes are the text of a valid certificate of a form with this head, none of whose lists keeps
-- too much for a graph: `check` accepts it
pub record IsTextOfForm (ex : Exercise) (sheet : Sheet) (form : Form) (head : CertHead) (bytes : List ℕ) : Type 0 where
  pub text : IsCertificateText ex sheet head bytes
  pub stating : form_of text.stated ≡ form
  pub small : AreSmallStated ex sheet text.stated

-- they are, where they are no longer than a certificate may be
abbrev pub IsAcceptable : Exercise → Sheet → Form → CertHead → List ℕ → Type 0
IsAcceptable ex sheet form head bytes = length bytes ≤ longest_certificate → IsTextOfForm ex sheet form head bytes

-- the certificate of the best setting with its penalty, as the search for the form finds it
pub record CertifiesBest (ex : Exercise) (sheet : Sheet) (budget : ℕ) (form : Form) (bytes : List ℕ) : Type 0 where
  pub score : Grid
  pub penalty : ℕ
  pub best : IsBestFound ex (IsBestFor form ex sheet budget) score penalty
  pub certificate : IsCertificateOf ex sheet form (Best penalty score) bytes
  pub acceptable : IsAcceptable ex sheet form (Best penalty score) bytes

-- the certificate that no setting is lawful, as that search finds it
pub record CertifiesNone (ex : Exercise) (sheet : Sheet) (budget : ℕ) (form : Form) (bytes : List ℕ) : Type 0 where
  pub none : IsNothingFor form ex sheet budget
  pub certificate : IsCertificateOf ex sheet form Nothing bytes
  pub acceptable : IsAcceptable ex sheet form Nothing bytes

-- what the bytes show of an exercise, by the verdict
abbrev pub Shows : Exercise → Sheet → ℕ → Form → Verdict → List ℕ → Type 0
Shows ex sheet budget form =
    TellsAs (CertifiesBest ex sheet budget form) (CertifiesNone ex sheet budget form) (IsBoundFor form ex sheet budget)

-- an output on an exercise none of whose menus is too wide: a certificate that is no longer than
-- one may be, or a bound
pub record IsCertification (budget : ℕ) (form : Form) (sheet : Sheet) (ex : Exercise) (output : Output) : Type 0 where
  pub narrow : IsNarrow ex
  pub shows : Shows ex sheet budget form output.verdict output.bytes
  pub fits : output.verdict ≢ Spent → length output.bytes ≤ 1073741824

-- the certificate is longer than one may be
pub record IsOverlong (budget : ℕ) (form : Form) (sheet : Sheet) (ex : Exercise) : Type 0 where
  pub narrow : IsNarrow ex
  pub verdict : Verdict
  pub found : verdict ≢ Spent
  pub bytes : List ℕ
  pub shows : Shows ex sheet budget form verdict bytes
  pub long : 1073741824 < length bytes

-- the search for a form found the best setting
pub record FindsBest (budget : ℕ) (form : Form) (sheet : Sheet) (ex : Exercise) : Type 0 where
  pub score : Grid
  pub penalty : ℕ
  pub best : IsBestFound ex (IsBestFor form ex sheet budget) score penalty

-- the search for the third form found the best setting, or that there is none, but even the least
-- that a list keeps is too much for a graph
pub record HasLargeGraph (budget : ℕ) (form : Form) (sheet : Sheet) (ex : Exercise) : Type 0 where
  pub narrow : IsNarrow ex
  pub third : form ≡ Third
  pub found : FindsBest budget form sheet ex ⊎ IsNothingFor form ex sheet budget
  pub large : IsLargeWeb ex sheet least_kept

-- a refusal of an exercise, before the work or after it
abbrev pub RefusesCertifying : ℕ → Form → Sheet → Exercise → Refusal → Type 0
RefusesCertifying budget form sheet ex LongCertificate = IsOverlong budget form sheet ex
RefusesCertifying budget form sheet ex LargeGraph = HasLargeGraph budget form sheet ex
RefusesCertifying budget form sheet ex refusal = RefusesWidth ex refusal

-- `certify` with this budget and this form makes this of an exercise, over the sheet in use
abbrev pub Certifies : ℕ → Form → Sheet → Exercise → Work → Type 0
Certifies budget form sheet ex (Ok output) = IsCertification budget form sheet ex output
Certifies budget form sheet ex (Err refusal) = RefusesCertifying budget form sheet ex refusal

-- a certificate of a head in a form is the output, with this verdict, or it is too long, or even the
-- least that a list of one keeps is too much for a graph
abbrev pub CertifiesHead : Exercise → Sheet → Form → CertHead → Verdict → Work → Type 0
CertifiesHead ex sheet form head verdict (Ok output) =
    (output.verdict ≡ verdict) × IsCertificateOf ex sheet form head output.bytes × (length output.bytes ≤ 1073741824)
CertifiesHead ex sheet form head verdict (Err LongCertificate) =
    (bytes : List ℕ) × IsCertificateOf ex sheet form head bytes × (1073741824 < length bytes)
CertifiesHead ex sheet form head verdict (Err LargeGraph) = (form ≡ Third) × IsLargeWeb ex sheet least_kept
CertifiesHead ex sheet form head verdict (Err refusal) = ⊥

-- the same of what a search of a space found
abbrev pub CertifiesFound : Task → Form → Option (Bor Grid × ℕ) → Verdict → Work → Type 0
CertifiesFound space form best verdict = CertifiesHead space.exercise space.sheet form (head_with best) verdict
