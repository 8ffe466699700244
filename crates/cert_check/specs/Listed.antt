-- The lists of a certificate of the third form as they are taken from a file, and how the head and
-- the prices in front of its claims are judged.
use Rattle.std.specs.Prelude.{◌≡◌, ◌⊎◌, ℕ, ◌+◌, ◌-◌, ◌++◌, ⊤, List, Option, Some, None, Err}
use Rattle.cert_check.specs.declared.checking.CheckFault.{CheckFault}
use Rattle.cert_check.specs.declared.checking.CheckFault.TheVariants as check
use Rattle.cert_file.specs.Readings.{Piece}
use Rattle.cert_law.specs.Certificates.{IsHeadSound}
use Rattle.cert_text.specs.declared.answers.CertFault.{CertFault}
use Rattle.cert_text.specs.declared.answers.CertFault.TheVariants.{CertHead as WrongHead, CertWord, CertEnd, Memory}
use Rattle.cert_text.specs.declared.answers.CertHead.{CertHead}
use Rattle.cert_text.specs.declared.answers.Refused.{Refused}
use Rattle.cert_text.specs.declared.answers.Why.TheVariants as whys
use Rattle.fux_grid.specs.declared.exercise.Exercise.{Exercise}
use Rattle.penalty_sheet.specs.declared.sheet.Sheet.{Sheet}
use Rattle.priced_paths.specs.declared.states.WebFault.{WebFault}
use Rattle.priced_paths.specs.declared.states.WebFault.TheVariants as woven
use Rattle.price_check.specs.Stated.{AreDue, first_high}
use Rattle.price_check.specs.Lists.{AreLists, lists_in, lists_text}
use Rattle.price_check.specs.PriceLines.{Line}

-- lists stood at the front of what was read and not used, and were used
pub record AreTaken (ex : Exercise) (lines : List Line) (old new : Piece) : Type 0 where
  pub lists : AreLists ex lines
  pub text : old.ahead ≡ lists_text lines ++ new.ahead
  pub offset : new.offset ≡ old.offset

-- no lists go on where a fault says
abbrev pub TellsStop : Exercise → Piece → CertFault → Type 0
TellsStop ex piece (WrongHead at) = (left : ℕ) × (lists_in ex piece.ahead ≡ Err left) × (at ≡ piece.offset - left)
TellsStop ex piece (CertWord at) = ⊥
TellsStop ex piece (CertEnd at) = ⊥
TellsStop ex piece Memory = ⊤

-- the head is sound, and the price of this number, from 0, is the first that isn't due
pub record TellsHigh (ex : Exercise) (sheet : Sheet) (head : CertHead) (lines : List Line) (refused : Refused) : Type 0 where
  pub sound : IsHeadSound ex sheet head
  pub before : ℕ
  pub first : first_high sheet lines ≡ Some before
  pub is : refused ≡ record { number = before + 1; why = whys.Price }

-- the head isn't sound, or a price isn't due
abbrev pub TellsFront : Exercise → Sheet → CertHead → List Line → Refused → Type 0
TellsFront ex sheet head lines refused =
    ((IsHeadSound ex sheet head → ⊥) × (refused ≡ record { number = 0; why = whys.Head }))
    ⊎ TellsHigh ex sheet head lines refused

-- both are as they should be
pub record IsFrontSound (ex : Exercise) (sheet : Sheet) (head : CertHead) (lines : List Line) : Type 0 where
  pub sound : IsHeadSound ex sheet head
  pub due : AreDue sheet lines

-- the head and the prices are as they should be, or what isn't is told
abbrev pub IsJudgedFront : Exercise → Sheet → CertHead → List Line → Option Refused → Type 0
IsJudgedFront ex sheet head lines None = IsFrontSound ex sheet head lines
IsJudgedFront ex sheet head lines (Some refused) = TellsFront ex sheet head lines refused

-- the answer where there are no webs
abbrev pub unwoven : WebFault → CheckFault
unwoven woven.TooLarge = check.TooLarge
unwoven woven.Memory = check.Memory
