-- What is answered of a certificate's file.
use Rattle.std.specs.Prelude.{◌≡◌, ◌⊎◌, ℕ, List, Result, Ok, Err, ⊤}
use Rattle.cert_check.specs.declared.checker.OpenFault.{OpenFault}
use Rattle.cert_check.specs.declared.checker.OpenFault.TheVariants as opening
use Rattle.cert_file.specs.declared.fault.ReadFault.{ReadFault}
use Rattle.cert_file.specs.declared.fault.ReadFault.TheVariants as reading
use Rattle.cert_file.specs.Readings.{Files, MayBe}
use Rattle.cert_text.specs.declared.answers.CertFault.TheVariants.{CertHead as WrongHead, Memory as NoMemory}
use Rattle.cert_check.specs.Settings.{HasLargeLists, IsVerdictOn}
use Rattle.cert_check.specs.declared.checking.CheckFault.{CheckFault}
use Rattle.cert_check.specs.declared.checking.CheckFault.TheVariants.{Unreadable, TooWide, TooLarge, Memory}
use Rattle.cert_file.specs.declared.verdict.Verdict.{Verdict}
use Rattle.cert_file.specs.declared.verdict.Verdict.TheVariants as verdict
use Rattle.chain_sums.specs.declared.tables.TableFault.{TableFault}
use Rattle.chain_sums.specs.declared.tables.TableFault.TheVariants as filling
use Rattle.floor_tables.specs.Tables.{IsTooWide}
use Rattle.fux_grid.specs.declared.exercise.Exercise.{Exercise}
use Rattle.fux_grid.specs.Exercises.{IsValid}
use Rattle.fux_port.specs.Files.{IsMissing}
use Rattle.penalty_sheet.specs.declared.sheet.Sheet.{Sheet}

-- bytes have one verdict
abbrev pub VerdictsAreOne : Type 0
VerdictsAreOne = (ex : Exercise) (sheet : Sheet) (bytes : List ℕ) (it other : Verdict) → IsValid ex
    → IsVerdictOn ex sheet it bytes → IsVerdictOn ex sheet other bytes → it ≡ other

-- how a file is answered: by the verdict on it, or why there is none; it is that lists are too large
-- only where one of them is
abbrev pub Answers : Exercise → Sheet → Files → List ℕ → Type 0 → Result Verdict CheckFault → Type 0
Answers ex sheet files name rose (Ok it) = MayBe files name (IsVerdictOn ex sheet it)
Answers ex sheet files name rose (Err Unreadable) = rose ⊎ IsMissing files name
Answers ex sheet files name rose (Err (TooWide place count)) = IsTooWide ex place count
Answers ex sheet files name rose (Err TooLarge) = MayBe files name (HasLargeLists ex sheet)
Answers ex sheet files name rose (Err Memory) = ⊤

-- no menu is told to be too wide
abbrev pub TellsNoWidth : CheckFault → Type 0
TellsNoWidth Unreadable = ⊤
TellsNoWidth (TooWide place count) = ⊥
TellsNoWidth TooLarge = ⊤
TellsNoWidth Memory = ⊤

-- a verdict is that no head stands at the front
abbrev pub IsHeadless : Verdict → Type 0
IsHeadless it = (at : ℕ) × (it ≡ verdict.Text (WrongHead at))

-- the answer where no head was read
abbrev pub unstarted : ReadFault → Result Verdict CheckFault
unstarted reading.Unreadable = Err Unreadable
unstarted (reading.Text NoMemory) = Err Memory
unstarted (reading.Text fault) = Ok (verdict.Text fault)

-- the answer where no tables are filled
abbrev pub unfilled : TableFault → Result Verdict CheckFault
unfilled (filling.TooWide place count) = Err (TooWide place count)
unfilled filling.Memory = Err Memory

-- the answer where the checker isn't opened
abbrev pub unopened : OpenFault → Result Verdict CheckFault
unopened (opening.TooWide place count) = Err (TooWide place count)
unopened (opening.Refused refused) = Ok (verdict.Claim refused)
unopened opening.Memory = Err Memory
