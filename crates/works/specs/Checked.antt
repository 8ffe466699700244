-- What `check` makes of an exercise and the file of a certificate, over a sheet of weights.
use Rattle.std.specs.Prelude.{◌≡◌, ℕ, ◌⊎◌, List, Result, Ok, Err}
use Rattle.cert_law.specs.Certificates.{Holds}
use Rattle.cert_file.specs.Readings.{Files, MayBe}
use Rattle.cert_text.specs.declared.answers.CertHead.{CertHead}
use Rattle.cert_check.specs.Settings.{HasLargeLists, IsCertificateText, IsVerdictOn, accepted_of}
use Rattle.cert_check.specs.declared.checking.CheckFault.{CheckFault}
use Rattle.cert_check.specs.declared.checking.CheckFault.TheVariants as check
use Rattle.cert_file.specs.declared.verdict.Verdict.{Verdict as CertVerdict}
use Rattle.cert_file.specs.declared.verdict.Verdict.TheVariants.{Accepted, Claim, Text}
use Rattle.cert_file.specs.Verdicts.{verdict_line}
use Rattle.fux_grid.specs.declared.exercise.Exercise.{Exercise}
use Rattle.fux_port.specs.Counts.{Rose}
use Rattle.fux_port.specs.Files.{HasFile, IsMissing}
use Rattle.penalty_sheet.specs.declared.sheet.Sheet.{Sheet}
use Rattle.works.specs.declared.refusal.Refusal.{Refusal}
use Rattle.works.specs.declared.refusal.Refusal.TheVariants.{LargeGraph, TooWide}
use Rattle.works.specs.declared.work.Output.{Output}
use Rattle.works.specs.declared.work.Stop.TheVariants.{Refused, Memory}
use Rattle.works.specs.declared.work.Unmade.{Unmade}
use Rattle.works.specs.declared.work.Unmade.TheVariants.{Stopped, Unreadable}
use Rattle.works.specs.declared.work.Verdict.{Verdict}
use Rattle.works.specs.declared.work.Verdict.TheVariants.{Favorable, Unfavorable}
use Rattle.works.specs.Searched.{IsNarrow, RefusesWidth}
use Rattle.works.specs.Texts.{Work}

-- what a verdict on a certificate says all in all
abbrev pub verdict_on : CertVerdict → Verdict
verdict_on (Accepted answer) = Favorable
verdict_on (Claim refused) = Unfavorable
verdict_on (Text fault) = Unfavorable

-- the output that tells it: its line
abbrev pub told : CertVerdict → Output
told said = record { verdict = verdict_on said; bytes = verdict_line said }

-- why there is no output, where the file gets no verdict
abbrev pub unmade_by : CheckFault → Unmade
unmade_by check.Unreadable = Unreadable
unmade_by (check.TooWide place count) = Stopped (Refused (TooWide place count))
unmade_by check.TooLarge = Stopped (Refused LargeGraph)
unmade_by check.Memory = Stopped Memory

-- the verdict is that on the certificate in the file of this name: the file is the text of a valid
-- certificate whose head then holds, or the verdict tells the first thing that is wrong with it
abbrev pub Judges : Exercise → Sheet → Files → List ℕ → CertVerdict → Type 0
Judges ex sheet files certificate said = MayBe files certificate (IsVerdictOn ex sheet said)

-- no other verdict is one on the file of this name, where there is one that is told
abbrev pub IsOnlyVerdict : Exercise → Sheet → Files → List ℕ → CertVerdict → Type 0
IsOnlyVerdict ex sheet files certificate said =
    (bytes : List ℕ) (other : CertVerdict) → HasFile files certificate bytes → IsVerdictOn ex sheet other bytes
    → other ≡ said

-- the file of this name is the text of a valid certificate, the output tells what it shows, and
-- this holds
pub record IsAccepted (ex : Exercise) (sheet : Sheet) (files : Files) (certificate : List ℕ) (output : Output) : Type 0
  where
    pub head : CertHead
    pub valid : MayBe files certificate (IsCertificateText ex sheet head)
    pub told : output ≡ told (Accepted (accepted_of head))
    pub holds : Holds ex sheet head

-- exactly a valid certificate is accepted: an output that is favorable accepts one, and where the
-- file of this name is the text of one, the output tells what its head says
pub record AcceptsValid (ex : Exercise) (sheet : Sheet) (files : Files) (certificate : List ℕ) (output : Output) : Type
    0 where
  pub only : output.verdict ≡ Favorable → IsAccepted ex sheet files certificate output
  pub each : (bytes : List ℕ) (head : CertHead) → HasFile files certificate bytes
      → IsCertificateText ex sheet head bytes
      → output ≡ told (Accepted (accepted_of head))

-- an output on an exercise none of whose menus is too wide: the line of the one verdict on the
-- file, which is that of an accepted certificate exactly where the certificate is valid
pub record IsChecked (files : Files) (certificate : List ℕ) (sheet : Sheet) (ex : Exercise) (output : Output) : Type 0
  where
    pub narrow : IsNarrow ex
    pub said : CertVerdict
    pub judges : Judges ex sheet files certificate said
    pub only : IsOnlyVerdict ex sheet files certificate said
    pub told : output ≡ told said
    pub exact : AcceptsValid ex sheet files certificate output

-- a refusal of an exercise one of whose menus is too wide, or of a certificate of the third form, whose
-- head is sound and whose prices are due, but one of whose lists keeps too much for a graph
abbrev pub RefusesChecking : Files → List ℕ → Sheet → Exercise → Refusal → Type 0
RefusesChecking files certificate sheet ex LargeGraph = IsNarrow ex × MayBe files certificate (HasLargeLists ex sheet)
RefusesChecking files certificate sheet ex refusal = RefusesWidth ex refusal

-- `check` makes this of an exercise and the certificate in the file of this name, over the sheet in
-- use
abbrev pub Checks : Files → List ℕ → Sheet → Exercise → Work → Type 0
Checks files certificate sheet ex (Ok output) = IsChecked files certificate sheet ex output
Checks files certificate sheet ex (Err refusal) = RefusesChecking files certificate sheet ex refusal

-- an answer is of such work, or a file that is read within it cannot be read, where this holds, or
-- memory is wanting
abbrev pub AnswersWithin : (Work → Type 0) → Type 0 → Result Output Unmade → Type 0
AnswersWithin Made Unread (Ok output) = Made (Ok output)
AnswersWithin Made Unread (Err (Stopped (Refused refusal))) = Made (Err refusal)
AnswersWithin Made Unread (Err (Stopped Memory)) = Unit {0}
AnswersWithin Made Unread (Err Unreadable) = Unread

-- a read failed by the shelf's fault, or no file has the name
abbrev pub IsUnreadable : {F : Type 0} → (F → Files) → (F → ℕ) → List ℕ → F → F → Type 0
IsUnreadable files faults name old new = Rose (faults old) (faults new) ⊎ IsMissing (files old) name

-- `check` answers so to an exercise and the certificate in a file, over the sheet in use
abbrev pub ChecksOn : {F : Type 0} → (F → Files) → (F → ℕ) → List ℕ → Sheet → Exercise → F → F → Result Output Unmade
    → Type 0
ChecksOn files faults certificate sheet ex old new answer =
    AnswersWithin (Checks (files old) certificate sheet ex)
    (IsNarrow ex × IsUnreadable files faults certificate old new) answer
