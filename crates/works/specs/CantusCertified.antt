-- What `certcantus` makes of a mode, a number of bars and a range, over a sheet of weights.
use Rattle.std.specs.Prelude.{◌≡◌, ◌≢◌, ℕ, ◌<◌, ◌≤◌, List, None, Some, Ok, Err, length}
use Rattle.cantus_check.specs.Topics.{cantus_subject}
use Rattle.cantus_check.specs.Certificates.{IsCantusCertificate}
use Rattle.cantus_check.specs.Claims.{Said}
use Rattle.cantus_check.specs.Writer.{claims_of}
use Rattle.cantus_space.specs.Answers.{IsBestWithin, IsLeastOver, IsNothingWithin}
use Rattle.cantus_space.specs.declared.plan.CantusPlan.{CantusPlan}
use Rattle.cantus_check.specs.Writing.{written_certificate}
use Rattle.cert_file.specs.Readings.{longest_certificate}
use Rattle.cert_file.specs.Subjects.{IsCertificateText}
use Rattle.fux_pitch.specs.declared.pitch.Pitch.{Pitch}
use Rattle.command_words.specs.declared.command.Wanted.{Wanted}
use Rattle.works.specs.declared.refusal.Refusal.{Refusal}
use Rattle.works.specs.declared.refusal.Refusal.TheVariants.{LongCertificate}
use Rattle.works.specs.declared.work.Output.{Output}
use Rattle.works.specs.declared.work.Verdict.{Verdict}
use Rattle.works.specs.declared.work.Verdict.TheVariants.{Spent}
use Rattle.works.specs.Composed.{TellsAs}
use Rattle.works.specs.Invented.{plan_of}
use Rattle.works.specs.Sheets.{OnSheet, prices_in_use}
use Rattle.works.specs.Texts.{Work}

-- the bytes are the certificate that is written for a head, which is valid
pub record IsCertificateOf (plan : CantusPlan) (said : Said) (bytes : List ℕ) : Type 0 where
  pub valid : IsCantusCertificate plan said (claims_of plan said)
  pub written : bytes ≡ written_certificate plan said

-- no longer than a certificate may be, the bytes are the text of a valid one with this head, which
-- `checkcantus` accepts
abbrev pub IsAcceptable : CantusPlan → Said → List ℕ → Type 0
IsAcceptable plan said bytes =
    length bytes ≤ longest_certificate → IsCertificateText (cantus_subject plan) said bytes

-- the certificate of the best cantus with its penalty, whose load is within the budget
pub record CertifiesBest (plan : CantusPlan) (budget : ℕ) (bytes : List ℕ) : Type 0 where
  pub cantus : List Pitch
  pub penalty : ℕ
  pub best : IsBestWithin plan budget cantus penalty
  pub certificate : IsCertificateOf plan (Some (penalty, cantus)) bytes
  pub acceptable : IsAcceptable plan (Some (penalty, cantus)) bytes

-- the certificate that no cantus is lawful; all pitches that begin one are within the budget
pub record CertifiesNone (plan : CantusPlan) (budget : ℕ) (bytes : List ℕ) : Type 0 where
  pub none : IsNothingWithin plan budget
  pub certificate : IsCertificateOf plan None bytes
  pub acceptable : IsAcceptable plan None bytes

-- what the bytes show of what is asked, by the verdict
abbrev pub ShowsCantus : CantusPlan → ℕ → Verdict → List ℕ → Type 0
ShowsCantus plan budget =
    TellsAs (CertifiesBest plan budget) (CertifiesNone plan budget) (IsLeastOver plan budget)

-- an output: a certificate that is no longer than one may be, or a bound
pub record IsCantusCertification (plan : CantusPlan) (budget : ℕ) (output : Output) : Type 0 where
  pub shows : ShowsCantus plan budget output.verdict output.bytes
  pub fits : output.verdict ≢ Spent → length output.bytes ≤ 1073741824

-- the certificate is longer than one may be
pub record IsOverlongCantus (plan : CantusPlan) (budget : ℕ) : Type 0 where
  pub verdict : Verdict
  pub found : verdict ≢ Spent
  pub bytes : List ℕ
  pub shows : ShowsCantus plan budget verdict bytes
  pub long : 1073741824 < length bytes

-- a refusal after the work
abbrev pub RefusesCantus : CantusPlan → ℕ → Refusal → Type 0
RefusesCantus plan budget LongCertificate = IsOverlongCantus plan budget
RefusesCantus plan budget refusal = ⊥

-- `certcantus` with this budget makes this of what is asked, by the weights of a sheet
abbrev pub CertifiesPlan : CantusPlan → ℕ → Work → Type 0
CertifiesPlan plan budget (Ok output) = IsCantusCertification plan budget output
CertifiesPlan plan budget (Err refusal) = RefusesCantus plan budget refusal

-- `certcantus` makes this of what is asked, and of the file of a sheet where one is given
abbrev pub MakesCantusCertificate : Wanted → ℕ → List (List ℕ) → Work → Type 0
MakesCantusCertificate wanted budget sheets work =
    OnSheet (λ sheet. CertifiesPlan (plan_of wanted sheet (prices_in_use sheets)) budget) sheets work

-- the certificate of a head is the output, with this verdict, or it is too long
abbrev pub CertifiesSaid : CantusPlan → Said → Verdict → Work → Type 0
CertifiesSaid plan said verdict (Ok output) =
    (output.verdict ≡ verdict) × IsCertificateOf plan said output.bytes × (length output.bytes ≤ 1073741824)
CertifiesSaid plan said verdict (Err LongCertificate) =
    IsCertificateOf plan said (written_certificate plan said)
    × (1073741824 < length (written_certificate plan said))
CertifiesSaid plan said verdict (Err refusal) = ⊥
