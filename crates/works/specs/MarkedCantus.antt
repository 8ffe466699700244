-- What `cantus` with a sheet writes.
use Rattle.std.specs.Prelude.{◌≡◌, ℕ, ◌++◌, List, Ok, Err, string_bytes}
use Rattle.cantus_space.specs.ChargeLines.{bill_text}
use Rattle.cantus_space.specs.Charges.{cantus_charges}
use Rattle.cantus_space.specs.declared.prices.PricedSheet.{PricedSheet}
use Rattle.class_marker.specs.declared.marking.MarkLines.{MarkLines}
use Rattle.class_marker.specs.Markings.{TellsMarks}
use Rattle.fux_grid.specs.declared.exercise.Exercise.{Exercise}
use Rattle.score_marker.specs.Cantus.{AreCantusMarks}
use Rattle.works.specs.declared.work.Output.{Output}
use Rattle.works.specs.Marked.{marks_verdict}
use Rattle.works.specs.Texts.{Work}

-- the lines of exactly what an exercise's cantus firmus pays, and what that comes to
abbrev pub charges_text : PricedSheet → Exercise → List ℕ
charges_text priced ex = bill_text ex.cantus_voice (cantus_charges priced.sheet priced.prices ex.cantus)

-- an output is the lines of the marks of an exercise's cantus firmus, and those of what it pays
-- below them
pub record TellsCantusCharges (priced : PricedSheet) (ex : Exercise) (output : Output) : Type 0 where
  pub lines : MarkLines
  pub told : TellsMarks ex (AreCantusMarks ex) lines
  pub bytes : output.bytes ≡ string_bytes lines.text ++ charges_text priced ex
  pub verdict : output.verdict ≡ marks_verdict lines.has_mark

-- `cantus` makes this of an exercise, over the sheet in use with its prices
abbrev pub ChargesCantus : PricedSheet → Exercise → Work → Type 0
ChargesCantus priced ex (Ok output) = TellsCantusCharges priced ex output
ChargesCantus priced ex (Err refusal) = ⊥
