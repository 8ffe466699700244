-- What `certify` and `certcantus` write, `check` and `checkcantus` accept.
use Rattle.std.specs.Prelude.{◌≡◌, ◌≢◌, ℕ, List, Ok}
use Rattle.cantus_check.specs.Topics as cantus
use Rattle.cantus_check.specs.Claims.{Said}
use Rattle.cert_check.specs.Settings.{accepted_of}
use Rattle.cert_file.specs.declared.verdict.Verdict.TheVariants.{Accepted}
use Rattle.cert_text.specs.declared.answers.CertHead.{CertHead}
use Rattle.cert_text.specs.declared.answers.Form.{Form}
use Rattle.class_marker.specs.Markings.{IsTheText}
use Rattle.command_words.specs.declared.command.Wanted.{Wanted}
use Rattle.fux_grid.specs.declared.exercise.Exercise.{Exercise}
use Rattle.fux_port.specs.Files.{HasFile}
use Rattle.penalty_sheet.specs.declared.sheet.Sheet.{Sheet}
use Rattle.works.specs.declared.work.Output.{Output}
use Rattle.works.specs.declared.work.Verdict.TheVariants.{Spent}
use Rattle.works.specs.CantusCertified as of_cantus
use Rattle.works.specs.CantusCertified.{MakesCantusCertificate}
use Rattle.works.specs.CantusChecked.{ChecksCantusBy}
use Rattle.works.specs.Certified.{IsCertificateOf}
use Rattle.works.specs.Checked.{told}
use Rattle.works.specs.Invented.{plan_of}
use Rattle.works.specs.Sheets.{prices_in_use, sheet_said}
use Rattle.works.specs.Texts.{Work}
use Rattle.works.specs.Works.{CertifiesText, ChecksText, Files}

-- work accepts a certificate and tells its head's penalty, or that none is lawful
abbrev pub Accepts : CertHead → Work → Type 0
Accepts head checked = checked ≡ Ok (told (Accepted (accepted_of head)))

-- the output is the certificate of a head, of the exercise that a text has and over the sheet in
-- use, and other work accepts it
pub record IsAcceptedFor (form : Form) (sheets : List (List ℕ)) (text : List ℕ) (written : Output) (checked : Work)
    : Type 0 where
  pub exercise : Exercise
  pub is : IsTheText text exercise
  pub sheet : Sheet
  pub said : sheet_said sheets ≡ Ok sheet
  pub head : CertHead
  pub certificate : IsCertificateOf exercise sheet form head written.bytes
  pub accepted : Accepts head checked

-- a certificate that `certify` writes of a text, `check` of the same text, with that certificate in
-- a file, accepts
abbrev pub CertifiedIsAccepted : Type 0
CertifiedIsAccepted =
    (budget : ℕ) (form : Form) (sheets : List (List ℕ)) (text : List ℕ) (written : Output) (files : Files)
    (name : List ℕ) (checked : Work) → CertifiesText budget form sheets text (Ok written)
    → written.verdict ≢ Spent → HasFile files name written.bytes → ChecksText files name sheets text checked
    → IsAcceptedFor form sheets text written checked

-- the same of the certificate of what is asked of a cantus
pub record IsCantusAcceptedFor (wanted : Wanted) (sheets : List (List ℕ)) (written : Output) (checked : Work) : Type 0
  where
    pub sheet : Sheet
    pub said : sheet_said sheets ≡ Ok sheet
    pub head : Said
    pub certificate : of_cantus.IsCertificateOf (plan_of wanted sheet (prices_in_use sheets)) head written.bytes
    pub accepted : checked ≡ Ok (told (Accepted (cantus.accepted_of head)))

-- a certificate that `certcantus` writes, `checkcantus` of the same, with that certificate in a
-- file, accepts
abbrev pub CertifiedCantusIsAccepted : Type 0
CertifiedCantusIsAccepted =
    (wanted : Wanted) (budget : ℕ) (sheets : List (List ℕ)) (written : Output) (files : Files) (name : List ℕ)
    (checked : Work) → MakesCantusCertificate wanted budget sheets (Ok written) → written.verdict ≢ Spent
    → HasFile files name written.bytes → ChecksCantusBy wanted files name sheets checked
    → IsCantusAcceptedFor wanted sheets written checked
