-- What is kept of runs behind a column, and what Q14 counts there.
use Rattle.std.specs.Prelude.{◌≡◌, ℕ, ◌*◌, List, [], ◌∷◌, ◌++◌, Some, length, if◌then◌else◌}
use Rattle.fux_grid.specs.declared.cell.Cell.{Cell}
use Rattle.fux_grid.specs.declared.exercise.Exercise.{Exercise}
use Rattle.fux_grid.specs.Columns.{Columns}
use Rattle.rule_law.specs.Bars.{begins_bar}
use Rattle.penalty_sheet.specs.declared.sheet.Sheet.{Sheet}
use Rattle.penalty_sheet.specs.Weights.{weight_of}
use Rattle.fux_judge.specs.Rules.{cost_at}
use Rattle.open_ends.specs.declared.keeps.Pairs.{Pairs}
use Rattle.open_ends.specs.declared.runs.OpenRuns.{OpenRuns}
use Rattle.open_ends.specs.BarRuns.{come_to_four, followed_after, for_pairs, of_pairs, pairs_after, run_in}
use Rattle.open_ends.specs.Parts.{Step, Waits}
pub use Rattle.open_ends.specs.BarRuns.{no_run}

-- Q14, by its number
abbrev pub run_toll : ℕ
run_toll = 14

-- no pair has a run
abbrev pub nothing : OpenRuns
nothing = record { pairs = for_pairs (λ v w. no_run) }

-- the runs of all pairs behind some columns
abbrev pub runs_in : Exercise → Columns → OpenRuns
runs_in ex p = record { pairs = for_pairs (run_in ex p) }

-- what is kept: those of the pairs that are followed
abbrev pub open_in : Waits OpenRuns
open_in ex keeps p = record { pairs = of_pairs keeps.runs (for_pairs (run_in ex p)) }

-- those of all pairs with one column more
abbrev pub runs_after : Exercise → ℕ → OpenRuns → List Cell → OpenRuns
runs_after ex i kept now = if begins_bar i then record { pairs = pairs_after ex i kept.pairs now } else kept

-- what is kept then
abbrev pub kept_after : Exercise → Pairs → ℕ → OpenRuns → List Cell → OpenRuns
kept_after ex pairs i kept now =
    if begins_bar i then record { pairs = followed_after ex pairs i kept.pairs now } else kept

-- no column is refused
abbrev pub open_after : Step OpenRuns
open_after ex keeps i kept before now = Some (kept_after ex keeps.runs i kept now)

-- how many pairs come to four bars with a column
abbrev pub runs_ended : ℕ → OpenRuns → List Cell → ℕ
runs_ended i kept now = if begins_bar i then come_to_four kept.pairs now else 0

-- what they cost there, by weight
abbrev pub runs_paid : Sheet → ℕ → OpenRuns → List Cell → ℕ
runs_paid sheet i kept now = runs_ended i kept now * weight_of sheet run_toll

-- from prefix to prefix each step leads to the runs of all pairs behind its column, and tells what
-- Q14 costs there without its weight
pub record TellsRuns (ex : Exercise) (p : Columns) (col : List Cell) : Type 0 where
  pub kept : runs_after ex (length p) (runs_in ex p) col ≡ runs_in ex (p ++ col ∷ [])
  pub ended : runs_ended (length p) (runs_in ex p) col ≡ cost_at run_toll ex (p ++ col ∷ []) (length p)
