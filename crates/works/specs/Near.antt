-- How much is read of a certificate that is refused: no more than a piece, 65,536 bytes, beyond the
-- line by which it is.
use Rattle.std.specs.Prelude.{◌≡◌, ℕ, ◌+◌, List, ◌∷◌, Option, Ok}
use Rattle.cantus_check.specs.Topics.{cantus_subject}
use Rattle.cert_check.specs.Settings.{setting_subject}
use Rattle.cert_file.specs.declared.verdict.Verdict.{Verdict as CertVerdict}
use Rattle.cert_file.specs.Nearness.{IsReadNear}
use Rattle.cert_file.specs.Subjects.{Subject}
use Rattle.cert_file.specs.Verdicts.{verdict_line}
use Rattle.class_marker.specs.Markings.{IsTheText}
use Rattle.command_words.specs.Commands.{Task, check, check_cantus}
use Rattle.command_words.specs.declared.command.Wanted.{Wanted}
use Rattle.fux_grid.specs.declared.exercise.Exercise.{Exercise}
use Rattle.penalty_sheet.specs.declared.sheet.Sheet.{Sheet}
use Rattle.works.specs.Invented.{plan_of}
use Rattle.works.specs.Little.{most_before}
use Rattle.works.specs.Sheets.{prices_in_use, sheet_said}
use Rattle.works.specs.TaskFiles.{as_list}
use Rattle.works.specs.Works.{AllMayHave, Files}

-- the line of a verdict is told, and where the verdict refuses the file of a name, a shelf that had
-- given so many bytes before it was read gave no more than a piece beyond the line that is refused
pub record TellsNear {H X : Type 0} (subject : Subject H X) (files : Files) (certificate : List ℕ) (before given : ℕ)
    (Tells : List ℕ → Type 0) : Type 0 where
  pub said : CertVerdict
  pub told : Tells (verdict_line said)
  pub near : IsReadNear subject files certificate before given said

-- so is that on a certificate for an exercise, over a sheet of weights
abbrev pub ChecksNear : Exercise → Sheet → Files → List ℕ → ℕ → ℕ → (List ℕ → Type 0) → Type 0
ChecksNear ex sheet = TellsNear (setting_subject record { exercise = ex; sheet = sheet })

-- and for the exercise of a text, over the sheet in use
pub record ChecksTextNear (sheets : List (List ℕ)) (text : List ℕ) (files : Files) (certificate : List ℕ)
    (before given : ℕ) (Tells : List ℕ → Type 0) : Type 0 where
  pub exercise : Exercise
  pub is : IsTheText text exercise
  pub sheet : Sheet
  pub said : sheet_said sheets ≡ Ok sheet
  pub near : ChecksNear exercise sheet files certificate before given Tells

-- and for what is asked of a cantus, over the sheet in use
pub record ChecksCantusNear (wanted : Wanted) (sheets : List (List ℕ)) (files : Files) (certificate : List ℕ)
    (before given : ℕ) (Tells : List ℕ → Type 0) : Type 0 where
  pub sheet : Sheet
  pub said : sheet_said sheets ≡ Ok sheet
  pub near : TellsNear (cantus_subject (plan_of wanted sheet (prices_in_use sheets))) files certificate before given Tells

-- `check` of files of these names stops so: of the exercise and the sheet no more is read than a
-- byte beyond their limits
pub record StopsCheck (name certificate : List ℕ) (sheet : Option (List ℕ)) (files : Files) (old new : ℕ)
    (Tells : List ℕ → Type 0) : Type 0 where
  pub text : List ℕ
  pub sheets : List (List ℕ)
  pub had : AllMayHave files (name ∷ as_list sheet) (text ∷ sheets)
  pub near : ChecksTextNear sheets text files certificate (old + most_before (check name certificate sheet)) new Tells

-- and so does `checkcantus`
pub record StopsCantusCheck (wanted : Wanted) (certificate : List ℕ) (sheet : Option (List ℕ)) (files : Files)
    (old new : ℕ) (Tells : List ℕ → Type 0) : Type 0 where
  pub sheets : List (List ℕ)
  pub had : AllMayHave files (as_list sheet) sheets
  pub near : ChecksCantusNear wanted sheets files certificate (old + most_before (check_cantus wanted certificate sheet))
      new Tells

-- a command that judges a certificate, and tells its verdict, stops so
abbrev pub StopsNear : Task → Files → ℕ → ℕ → (List ℕ → Type 0) → Type 0
StopsNear (check name certificate sheet) files old new Tells = StopsCheck name certificate sheet files old new Tells
StopsNear (check_cantus wanted certificate sheet) files old new Tells =
    StopsCantusCheck wanted certificate sheet files old new Tells
StopsNear _ _ _ _ _ = Unit {0}
