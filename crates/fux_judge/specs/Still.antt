-- Places of an exercise at which nothing can begin.
use Rattle.std.specs.Prelude.{◌≡◌, ℕ, false, List, [], ◌∷◌, ◌++◌}
use Rattle.fux_grid.specs.declared.cell.Cell.{Cell}
use Rattle.fux_grid.specs.declared.exercise.Exercise.{Exercise}
use Rattle.fux_grid.specs.Columns.{Columns}
use Rattle.rule_law.specs.Bars.{begins_bar}
use Rattle.rule_law.specs.Gauges.{menu_starts}
use Rattle.rule_law.specs.Prefixes.{IsPrefix}
use Rattle.penalty_sheet.specs.declared.sheet.Sheet.{Sheet}
use Rattle.fux_judge.specs.declared.state.State.{State}
use Rattle.fux_judge.specs.Gauges.{least_of}
use Rattle.fux_judge.specs.Idle.{DoShapesHold}
use Rattle.fux_judge.specs.States.{IsStateOf}

-- no bar begins at the place, no column of its menu starts a note, and each shape of each voice
-- holds one there
pub record IsStillPlace (ex : Exercise) (i : ℕ) : Type 0 where
  pub inner : begins_bar i ≡ false
  pub none : (v : ℕ) → menu_starts ex v i ≡ false
  pub shapes : DoShapesHold ex i

-- whatever prefix the state is of, with the column behind it the lines cost at least what they did
abbrev pub KeepsLeast : Exercise → Sheet → State → List Cell → Type 0
KeepsLeast ex sheet state col =
    (p : Columns) → IsStateOf ex p state → IsPrefix ex (p ++ col ∷ [])
    → least_of ex sheet (p ++ col ∷ []) ≡ least_of ex sheet p
