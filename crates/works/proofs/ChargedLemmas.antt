-- What an output tells of a weighed setting.
use Rattle.std.proofs.Common.{◌≡◌, ℕ, ◌++◌, ap, ◌∙◌, string_bytes}
use Rattle.fux_grid.specs.declared.exercise.Exercise.{Exercise}
use Rattle.fux_grid.specs.Grid.{Grid}
use Rattle.penalty_sheet.specs.declared.sheet.Sheet.{Sheet}
use Rattle.score_marker.specs.Charges.{charges}
use Rattle.score_marker.specs.ChargeLines.{weighing_text}
use Rattle.works.specs.declared.charging.Weighed.{Weighed}
use Rattle.works.specs.declared.searching.Found.{Found}
use Rattle.works.specs.declared.work.Output.{Output}
use Rattle.works.specs.Charged.{IsWeighed, TellsAgainst, TellsWeighing, against_line}
use Rattle.works.specs.Searched.{IsFoundSharply, IsNarrow}

pub tells_weighing : (rules : Exercise) (sheet : Sheet) (score : Grid) (weighed : Weighed) (output : Output)
    → IsWeighed rules sheet score weighed
    → output ≡ record { verdict = weighed.verdict; bytes = string_bytes weighed.text }
    → TellsWeighing rules sheet score output
tells_weighing rules sheet score weighed output w e = record {
  bytes = ap (λ (o : Output). o.bytes) e ∙ w.text
      ∙ ap (λ n. weighing_text rules n (charges rules sheet score.columns)) w.penalty;
  verdict = ap (λ (o : Output). o.verdict) e ∙ w.verdict;
}

pub tells_against : (ex : Exercise) (sheet : Sheet) (budget : ℕ) (score : Grid) (weighed : Weighed) (found : Found)
    (output : Output) → IsWeighed ex sheet score weighed → IsNarrow ex → IsFoundSharply ex sheet budget found
    → output ≡ record {
      verdict = weighed.verdict;
      bytes = string_bytes weighed.text ++ against_line weighed.penalty found;
    } → TellsAgainst ex sheet budget score output
tells_against ex sheet budget score weighed found output w narrow sharp e = record {
  found = found;
  narrow = narrow;
  sharp = sharp;
  bytes = ap (λ (o : Output). o.bytes) e ∙ ap (λ text. text ++ against_line weighed.penalty found) w.text
      ∙ ap (λ n. weighing_text ex n (charges ex sheet score.columns) ++ against_line n found) w.penalty;
  verdict = ap (λ (o : Output). o.verdict) e ∙ w.verdict;
}
