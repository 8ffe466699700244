-- What a checker of certificates on settings keeps, and why it isn't opened.
use Rattle.std.specs.Prelude.{◌≡◌, List, [], ⊤, IfSome}
use Rattle.cert_check.specs.declared.checker.OpenFault.{OpenFault}
use Rattle.cert_check.specs.declared.checker.OpenFault.TheVariants.{TooWide, Refused, Memory}
use Rattle.cert_file.specs.Checking.{Checking, opened_at}
use Rattle.cert_check.specs.Settings.{Asked, Ground, Opening}
use Rattle.cert_law.specs.Bases.{Basis, HasTails}
use Rattle.cert_law.specs.Cases.{IsCase, Matter}
use Rattle.cert_law.specs.Certificates.{Begins, IsHeadSound}
use Rattle.cert_law.specs.Entries.{AreTrueEntries}
use Rattle.cert_law.specs.Known.{IsKnown, tailed_of, tree_in, ways_of}
use Rattle.cert_law.specs.WayLaws.{RefutesExcluded}
use Rattle.cert_law.specs.declared.known.PrefixKnown.{PrefixKnown}
use Rattle.cert_text.specs.declared.answers.CertHead.{CertHead}
use Rattle.cert_text.specs.declared.answers.Why.TheVariants.{Head}
use Rattle.cert_tree.specs.Judgings.{IsKept}
use Rattle.cert_tree.specs.declared.judging.Judging.{Judging}
use Rattle.floor_tables.specs.Tables.{AreNarrow, IsTooWide}
use Rattle.fux_grid.specs.declared.cell.Cell.{Cell}
use Rattle.fux_grid.specs.declared.exercise.Exercise.{Exercise}
use Rattle.penalty_sheet.specs.declared.sheet.Sheet.{Sheet}
use Rattle.price_check.specs.declared.sharp_case.SharpKnown.{SharpKnown}
use Rattle.price_check.specs.Sharps as sharp
use Rattle.price_check.specs.Sharps.{ExcludesRefuting, IsSharpKnown, Sharp}
use Rattle.price_check.specs.Stated.{AreDue}

-- a fault tells its cause: the first menu that is too wide; or, where none is, a head that isn't
-- sound, refused before any claim
abbrev pub TellsWhy : Exercise → Sheet → CertHead → OpenFault → Type 0
TellsWhy ex sheet head (TooWide place count) = IsTooWide ex place count
TellsWhy ex sheet head (Refused refused) =
    AreNarrow ex × (IsHeadSound ex sheet head → ⊥) × (refused ≡ record { number = 0; why = Head })
TellsWhy ex sheet head Memory = ⊤

-- what each checker keeps: entries that are stated are true, and as long as no claim was refused,
-- each setting that refutes the head is begun by a prefix that is owed
pub record IsChecking (t : Matter) (basis : Basis) (judging : Judging PrefixKnown) : Type 0 where
  pub case : IsCase t
  pub has : HasTails t basis
  pub entries : IfSome basis.stated (AreTrueEntries t.exercise t.sheet)
  pub kept : IsKept (tree_in (tailed_of t basis)) (IsKnown (tailed_of t basis)) (ways_of t.exercise) Begins
      (RefutesExcluded (tailed_of t basis)) judging

-- the same where lists are stated: their prices are due
pub record IsSharpChecking (s : Sharp) (judging : Judging SharpKnown) : Type 0 where
  pub case : IsCase s.case
  pub due : AreDue s.case.sheet s.lines
  pub excluded : ExcludesRefuting s
  pub kept : IsKept (sharp.tree_in s) (IsSharpKnown s) (ways_of s.case.exercise) Begins (sharp.RefutesExcluded s) judging

-- the empty prefix alone is owed, no claim was taken, and none was refused
abbrev pub opened_for : Exercise → Sheet → CertHead → Ground → Checking Asked Opening (List (List Cell))
opened_for ex sheet head stated =
    opened_at (record { exercise = ex; sheet = sheet }) (record { head = head; stated = stated }) []
