-- What `weigh` writes.
use Rattle.std.specs.Prelude.{◌≡◌, ℕ, ◌-◌, List, [], ◌∷◌, ◌++◌, Option, None, Some, Ok, Err, codes, length, nat_le, nat_lt, string_bytes, if◌then◌else◌}
use Rattle.std.specs.Fmt.{decimal}
use Rattle.floor_tables.specs.Tables.{IsTooWide}
use Rattle.fux_grid.specs.declared.exercise.Exercise.{Exercise}
use Rattle.fux_grid.specs.Grid.{Grid}
use Rattle.fux_judge.specs.Penalties.{penalty_of}
use Rattle.penalty_sheet.specs.declared.sheet.Sheet.{Sheet}
use Rattle.score_marker.specs.declared.charge.Charge.{Charge}
use Rattle.score_marker.specs.Charges.{charges, marks_in}
use Rattle.score_marker.specs.ChargeLines.{weighing_text}
use Rattle.works.specs.declared.charging.Weighed.{Weighed}
use Rattle.works.specs.declared.refusal.Refusal.{Refusal}
use Rattle.works.specs.declared.refusal.Refusal.TheVariants.{NoSetting, TooWide}
use Rattle.works.specs.declared.searching.Found.{Found}
use Rattle.works.specs.declared.searching.Found.TheVariants.{Best, Nothing, Spent}
use Rattle.works.specs.declared.work.Output.{Output}
use Rattle.works.specs.declared.work.Verdict.{Verdict}
use Rattle.works.specs.Marked.{marks_verdict}
use Rattle.works.specs.Searched.{IsFoundSharply, IsNarrow}
use Rattle.works.specs.Texts.{Work}

-- charges are unfavorable where a rule is broken
abbrev pub charges_verdict : List Charge → Verdict
charges_verdict charged = marks_verdict (nat_lt 0 (length (marks_in charged)))

-- what a setting breaks and pays for, by the rules of an exercise: every charge, the penalty, and
-- how many rules are broken
pub record IsWeighed (rules : Exercise) (sheet : Sheet) (score : Grid) (weighed : Weighed) : Type 0 where
  pub penalty : weighed.penalty ≡ penalty_of rules sheet score.columns
  pub text : string_bytes weighed.text ≡ weighing_text rules weighed.penalty (charges rules sheet score.columns)
  pub verdict : weighed.verdict ≡ charges_verdict (charges rules sheet score.columns)

-- the line that sets a penalty beside the best: how much more it is, or where a rule is broken, how
-- much less
abbrev pub difference_line : ℕ → ℕ → List ℕ
difference_line penalty best =
    if nat_le best penalty
    then codes "best " ++ decimal best ++ codes ", " ++ decimal (penalty - best) ++ codes " more" ++ 10 ∷ []
    else codes "best " ++ decimal best ++ codes ", " ++ decimal (best - penalty) ++ codes " less" ++ 10 ∷ []

-- the line that sets a penalty beside what was found
abbrev pub against_line : ℕ → Found → List ℕ
against_line penalty (Best score best) = difference_line penalty best
against_line penalty Nothing = codes "best none" ++ 10 ∷ []
against_line penalty (Spent bound) = codes "best at least " ++ decimal bound ++ 10 ∷ []

-- an output tells of a setting what it breaks and pays for, and nothing else
pub record TellsWeighing (rules : Exercise) (sheet : Sheet) (score : Grid) (output : Output) : Type 0 where
  pub bytes : output.bytes
      ≡ weighing_text rules (penalty_of rules sheet score.columns) (charges rules sheet score.columns)
  pub verdict : output.verdict ≡ charges_verdict (charges rules sheet score.columns)

-- an output tells that and then what `best` with this budget finds
pub record TellsAgainst (ex : Exercise) (sheet : Sheet) (budget : ℕ) (score : Grid) (output : Output) : Type 0 where
  pub found : Found
  pub narrow : IsNarrow ex
  pub sharp : IsFoundSharply ex sheet budget found
  pub bytes : output.bytes
      ≡ weighing_text ex (penalty_of ex sheet score.columns) (charges ex sheet score.columns)
      ++ against_line (penalty_of ex sheet score.columns) found
  pub verdict : output.verdict ≡ charges_verdict (charges ex sheet score.columns)

-- an output tells this of the setting of an exercise
pub record OfSetting (ex : Exercise) (Told : Grid → Output → Type 0) (output : Output) : Type 0 where
  pub score : Grid
  pub given : ex.setting ≡ Some score
  pub told : Told score output

-- what `weigh` tells of a setting, alone or against `best` with a budget
abbrev pub TellsWeighed : Option ℕ → Sheet → Exercise → Grid → Output → Type 0
TellsWeighed None sheet ex = TellsWeighing ex sheet
TellsWeighed (Some budget) sheet ex = TellsAgainst ex sheet budget

-- why `weigh` refuses an exercise by some rules: it has no setting, or where that is to be set
-- against `best`, a menu is too wide
abbrev pub RefusesWeighing : Option ℕ → Exercise → Exercise → Refusal → Type 0
RefusesWeighing against ex rules NoSetting = ex.setting ≡ None
RefusesWeighing (Some budget) ex rules (TooWide place count) = IsTooWide rules place count
RefusesWeighing against ex rules _ = ⊥

-- `weigh` makes this of an exercise by the rules of one that differs at most by the species of its
-- voices, over the sheet in use
abbrev pub Weighs : Option ℕ → Sheet → Exercise → Exercise → Work → Type 0
Weighs against sheet ex rules (Ok output) = OfSetting ex (TellsWeighed against sheet rules) output
Weighs against sheet ex rules (Err refusal) = RefusesWeighing against ex rules refusal
