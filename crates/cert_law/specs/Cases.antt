-- What a certificate is about.
use Rattle.cert_law.specs.declared.case.Case.{Case}
use Rattle.cert_law.specs.Certificates.{IsHeadSound}
use Rattle.cert_text.specs.declared.answers.CertHead.{CertHead}
use Rattle.fux_grid.specs.declared.exercise.Exercise.{Exercise}
use Rattle.fux_grid.specs.Exercises.{IsValid}
use Rattle.penalty_sheet.specs.declared.sheet.Sheet.{Sheet}

-- an exercise and a sheet, and the head of a certificate
pub record Matter : Type 0 where
  pub exercise : Exercise
  pub sheet : Sheet
  pub head : CertHead

abbrev pub matter_of : Case → Matter
matter_of case = record { exercise = case.exercise.now; sheet = case.sheet.now; head = case.head.now }

-- the exercise is within the limits, and the head is sound
pub record IsCase (t : Matter) : Type 0 where
  pub valid : IsValid t.exercise
  pub sound : IsHeadSound t.exercise t.sheet t.head
