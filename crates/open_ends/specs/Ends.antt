-- All that waits behind a column, and how the steps of a lawful setting lead from one column to the
-- next and what they settle (`LeadsThrough`).
use Rattle.std.specs.Prelude.{◌≡◌, ◌≤◌, ℕ, ◌+◌, List, [], ◌∷◌, ◌++◌, Option, Some, IsSomeAnd, length, reverse}
use Rattle.std.specs.Option.{option_map}
use Rattle.fux_grid.specs.declared.cell.Cell.{Cell}
use Rattle.fux_grid.specs.declared.exercise.Exercise.{Exercise}
use Rattle.fux_grid.specs.Columns.{Columns, newest_column}
use Rattle.penalty_sheet.specs.declared.sheet.Sheet.{Sheet}
use Rattle.fux_judge.specs.Lawful.{IsLawful}
use Rattle.fux_judge.specs.Links.{last_column, link_of}
use Rattle.fux_judge.specs.Penalties.{newly_paid}
use Rattle.open_ends.specs.declared.both.Both.{Both}
use Rattle.open_ends.specs.declared.cadences.OpenCadences.{OpenCadences}
use Rattle.open_ends.specs.declared.keeps.Keeps.{Keeps}
use Rattle.open_ends.specs.declared.ligatures.OpenLigature.{OpenLigature}
use Rattle.open_ends.specs.declared.notes.OpenTurns.{OpenTurns}
use Rattle.open_ends.specs.declared.parallels.OpenParallels.{OpenParallels}
use Rattle.open_ends.specs.declared.passing.OpenPassing.{OpenPassing}
use Rattle.open_ends.specs.declared.runs.OpenRuns.{OpenRuns}
use Rattle.open_ends.specs.declared.shapes.OpenShapes.{OpenShapes}
use Rattle.open_ends.specs.declared.suspensions.OpenSuspensions.{OpenSuspensions}
use Rattle.open_ends.specs.Cadences as cadences
use Rattle.open_ends.specs.Ligatures as ligatures
use Rattle.open_ends.specs.Notes as notes
use Rattle.open_ends.specs.Parallels as parallels
use Rattle.open_ends.specs.Parts.{Step, Waits, both, both_after, both_in}
use Rattle.open_ends.specs.Passing as passing
use Rattle.open_ends.specs.Runs as runs
use Rattle.open_ends.specs.Runs.{runs_paid}
use Rattle.open_ends.specs.Shapes as shapes
use Rattle.open_ends.specs.Suspensions as suspensions
use Rattle.open_ends.specs.Turns as turns

-- what rules wait for
abbrev pub OpenRules : Type 0
OpenRules =
    Both OpenPassing (Both OpenLigature (Both OpenShapes (Both OpenParallels
    (Both OpenSuspensions (Both OpenCadences OpenTurns)))))

-- and tolls
abbrev pub OpenEnds : Type 0
OpenEnds = Both OpenRules OpenRuns

-- nothing is open
abbrev pub nothing : OpenEnds
nothing =
    both (both passing.nothing (both ligatures.nothing (both shapes.nothing (both parallels.nothing
    (both suspensions.nothing (both cadences.nothing notes.none)))))) runs.nothing

-- what waits behind some columns
abbrev pub rules_in : Waits OpenRules
rules_in =
    both_in passing.open_in (both_in ligatures.open_in (both_in shapes.open_in (both_in parallels.open_in
    (both_in suspensions.open_in (both_in cadences.open_in turns.open_in)))))

abbrev pub ends_in : Waits OpenEnds
ends_in = both_in rules_in runs.open_in

-- what waits behind one column more
abbrev pub rules_after : Step OpenRules
rules_after =
    both_after passing.open_after (both_after ligatures.open_after (both_after shapes.open_after
    (both_after parallels.open_after (both_after suspensions.open_after
    (both_after cadences.open_after turns.open_after)))))

-- the same, with what the tolls that are followed cost there, by weight; none where some part
-- refuses the column
abbrev pub ends_after : Exercise → Sheet → Keeps → ℕ → OpenEnds → List Cell → List Cell → Option (OpenEnds × ℕ)
ends_after ex sheet keeps i kept before now =
    option_map (λ ends. (ends, runs_paid sheet i kept.second now))
    (both_after rules_after runs.open_after ex keeps i kept before now)

-- a column leads on from what is kept of a prefix to what is kept of the longer one, and settles at
-- least what the kept tolls cost there, beside what it and the one before it cost by themselves
pub record LeadsOn (ex : Exercise) (sheet : Sheet) (keeps : Keeps) (p : Columns) (col : List Cell) : Type 0 where
  pub cost : ℕ
  pub is : ends_after ex sheet keeps (length p) (ends_in ex keeps p) (newest_column (reverse p)) col
      ≡ Some (ends_in ex keeps (p ++ col ∷ []), cost)
  pub settles : IsSomeAnd (link_of ex sheet (length p) (last_column p) col)
      (λ own. own + cost ≤ newly_paid ex sheet p col)

-- from prefix to prefix of a lawful setting each column leads on
pub record LeadsThrough (ex : Exercise) (sheet : Sheet) (keeps : Keeps) : Type 0 where
  pub first : ends_in ex keeps [] ≡ nothing
  pub next : (p : Columns) (col : List Cell) (more : Columns) → IsLawful ex (p ++ col ∷ more)
      → LeadsOn ex sheet keeps p col
