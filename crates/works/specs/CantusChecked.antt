-- What `checkcantus` makes of a mode, a number of bars, a range and the file of a certificate, over
-- a sheet of weights.
use Rattle.std.specs.Prelude.{◌≡◌, ℕ, List, Ok, Err}
use Rattle.cantus_check.specs.Answers.{IsVerdictOn}
use Rattle.cantus_check.specs.Topics.{accepted_of, cantus_subject}
use Rattle.cantus_check.specs.Certificates.{Holds}
use Rattle.cantus_check.specs.Claims.{Said}
use Rattle.cantus_space.specs.declared.plan.CantusPlan.{CantusPlan}
use Rattle.cert_file.specs.Readings.{Files, MayBe}
use Rattle.cert_file.specs.Subjects.{IsCertificateText}
use Rattle.cert_file.specs.declared.verdict.Verdict.{Verdict as CertVerdict}
use Rattle.cert_file.specs.declared.verdict.Verdict.TheVariants.{Accepted}
use Rattle.fux_port.specs.Files.{HasFile}
use Rattle.command_words.specs.declared.command.Wanted.{Wanted}
use Rattle.works.specs.declared.work.Output.{Output}
use Rattle.works.specs.declared.work.Verdict.TheVariants.{Favorable}
use Rattle.works.specs.Checked.{told}
use Rattle.works.specs.Invented.{plan_of}
use Rattle.works.specs.Sheets.{OnSheet, prices_in_use}
use Rattle.works.specs.Texts.{Work}

-- the verdict is that on the certificate in the file of this name
abbrev pub JudgesCantus : CantusPlan → Files → List ℕ → CertVerdict → Type 0
JudgesCantus plan files certificate said = MayBe files certificate (IsVerdictOn plan said)

-- no other verdict is one on the file of this name, where there is one that is told
abbrev pub IsOnlyVerdict : CantusPlan → Files → List ℕ → CertVerdict → Type 0
IsOnlyVerdict plan files certificate said =
    (bytes : List ℕ) (other : CertVerdict) → HasFile files certificate bytes → IsVerdictOn plan other bytes → other ≡ said

-- the file of this name is the text of a valid certificate, the output tells what it shows, and
-- this holds: its cantus is the best one, or none is lawful
pub record IsAccepted (plan : CantusPlan) (files : Files) (certificate : List ℕ) (output : Output) : Type 0 where
  pub said : Said
  pub valid : MayBe files certificate (IsCertificateText (cantus_subject plan) said)
  pub told : output ≡ told (Accepted (accepted_of said))
  pub holds : Holds plan said

-- exactly a valid certificate is accepted: an output that is favorable accepts one, and where the
-- file of this name is the text of one, the output tells what its head says
pub record AcceptsValid (plan : CantusPlan) (files : Files) (certificate : List ℕ) (output : Output) : Type 0 where
  pub only : output.verdict ≡ Favorable → IsAccepted plan files certificate output
  pub each : (bytes : List ℕ) (said : Said) → HasFile files certificate bytes
      → IsCertificateText (cantus_subject plan) said bytes
      → output ≡ told (Accepted (accepted_of said))

-- an output: the line of the one verdict on the file, which is that of an accepted certificate
-- exactly where the certificate is valid
pub record IsCantusChecked (plan : CantusPlan) (files : Files) (certificate : List ℕ) (output : Output) : Type 0 where
  pub said : CertVerdict
  pub judges : JudgesCantus plan files certificate said
  pub only : IsOnlyVerdict plan files certificate said
  pub told : output ≡ told said
  pub exact : AcceptsValid plan files certificate output

-- `checkcantus` makes this of what is asked and the certificate in the file of this name, by the
-- weights of a sheet
abbrev pub ChecksPlan : CantusPlan → Files → List ℕ → Work → Type 0
ChecksPlan plan files certificate (Ok output) = IsCantusChecked plan files certificate output
ChecksPlan plan files certificate (Err refusal) = ⊥

-- `checkcantus` makes this of what is asked, the certificate in the file of this name, and the file
-- of a sheet where one is given
abbrev pub ChecksCantusBy : Wanted → Files → List ℕ → List (List ℕ) → Work → Type 0
ChecksCantusBy wanted files certificate sheets work =
    OnSheet (λ sheet. ChecksPlan (plan_of wanted sheet (prices_in_use sheets)) files certificate) sheets work
