-- What is answered of a cantus certificate's file.
use Rattle.std.specs.Prelude.{◌≡◌, ◌⊎◌, ℕ, List, Result, Ok, Err, ⊤}
use Rattle.cert_file.specs.Readings.{Files, MayBe}
use Rattle.cert_file.specs.declared.fault.ReadFault.{ReadFault}
use Rattle.cert_file.specs.declared.fault.ReadFault.TheVariants as reading
use Rattle.cert_file.specs.declared.verdict.Verdict.{Verdict}
use Rattle.cert_file.specs.declared.verdict.Verdict.TheVariants as verdict
use Rattle.cert_text.specs.declared.answers.CertFault.TheVariants.{Memory as NoMemory}
use Rattle.fux_port.specs.Files.{IsMissing}
use Rattle.cantus_space.specs.declared.plan.CantusPlan.{CantusPlan}
use Rattle.cantus_check.specs.declared.checker.CantusOpen.{CantusOpen}
use Rattle.cantus_check.specs.declared.checker.CantusOpen.TheVariants as opening
use Rattle.cantus_check.specs.declared.checking.CantusFault.{CantusFault}
use Rattle.cantus_check.specs.declared.checking.CantusFault.TheVariants.{Unreadable, Memory}
use Rattle.cantus_check.specs.Topics.{cantus_subject}
use Rattle.cert_file.specs.Judgments.{IsVerdictBy}

-- what a verdict says of bytes
abbrev pub IsVerdictOn : CantusPlan → Verdict → List ℕ → Type 0
IsVerdictOn plan = IsVerdictBy (cantus_subject plan)

-- bytes have one verdict
abbrev pub VerdictsAreOne : Type 0
VerdictsAreOne = (plan : CantusPlan) (bytes : List ℕ) (it other : Verdict) → IsVerdictOn plan it bytes
    → IsVerdictOn plan other bytes → it ≡ other

-- how a file is answered: by the verdict on it, or why there is none
abbrev pub Answers : CantusPlan → Files → List ℕ → Type 0 → Result Verdict CantusFault → Type 0
Answers plan files name rose (Ok it) = MayBe files name (IsVerdictOn plan it)
Answers plan files name rose (Err Unreadable) = rose ⊎ IsMissing files name
Answers plan files name rose (Err Memory) = ⊤

-- the answer where no head was read
abbrev pub unstarted : ReadFault → Result Verdict CantusFault
unstarted reading.Unreadable = Err Unreadable
unstarted (reading.Text NoMemory) = Err Memory
unstarted (reading.Text fault) = Ok (verdict.Text fault)

-- the answer where the checker isn't opened
abbrev pub unopened : CantusOpen → Result Verdict CantusFault
unopened (opening.Refused refused) = Ok (verdict.Claim refused)
unopened opening.Memory = Err Memory
