-- What contracts see of a certificate of the second form whose entries are read, and how they are
-- judged.
use Rattle.std.specs.Prelude.{◌≡◌, ℕ, ◌+◌, List, ⊤}
use Rattle.cert_check.specs.declared.stated.CloseFault.{CloseFault}
use Rattle.cert_check.specs.declared.stated.CloseFault.TheVariants as closing
use Rattle.cert_check.specs.Listings.{Listing}
use Rattle.cert_law.specs.Cases.{IsCase, Matter}
use Rattle.cert_law.specs.Entries.{IsFirstFalse}
use Rattle.cert_text.specs.declared.answers.CertHead.{CertHead}
use Rattle.cert_text.specs.declared.answers.Why.TheVariants as whys
use Rattle.cert_text.specs.declared.potential.Potential.{Potential}
use Rattle.floor_tables.specs.Tables.{AreNarrow}
use Rattle.fux_grid.specs.declared.exercise.Exercise.{Exercise}
use Rattle.penalty_sheet.specs.declared.sheet.Sheet.{Sheet}

-- an exercise, a sheet and a head, and the entries that were stated so far
pub record Stating : Type 0 where
  pub exercise : Exercise
  pub sheet : Sheet
  pub head : CertHead
  pub entries : List Potential

abbrev pub stating_for : Exercise → Sheet → CertHead → List Potential → Stating
stating_for ex sheet head entries = record { exercise = ex; sheet = sheet; head = head; entries = entries }

-- what each keeps: the head is sound, and the entries are of the exercise and the sheet
pub record IsStating (t : Matter) (listing : Listing) : Type 0 where
  pub case : IsCase t
  pub narrow : AreNarrow t.exercise
  pub exercise : listing.exercise ≡ t.exercise
  pub sheet : listing.sheet ≡ t.sheet

-- a refusal tells the first entry that isn't true, counted from 1
abbrev pub TellsFalse : Stating → CloseFault → Type 0
TellsFalse s (closing.Refused refused) =
    (n : ℕ) × IsFirstFalse s.exercise s.sheet s.entries n × (refused ≡ record { number = n + 1; why = whys.Potential })
TellsFalse s closing.Memory = ⊤
