-- What a verdict tells of a column, known by the state before it alone.
use Rattle.std.specs.Prelude.{◌≡◌, ℕ, ◌+◌, ◌&&◌, List, [], ◌∷◌, ◌++◌}
use Rattle.fux_grid.specs.declared.cell.Cell.{Cell}
use Rattle.fux_grid.specs.declared.exercise.Exercise.{Exercise}
use Rattle.fux_grid.specs.Columns.{Columns}
use Rattle.rule_law.specs.Prefixes.{GoesOn, IsPrefix}
use Rattle.rule_law.specs.Voices.{has_rule}
use Rattle.penalty_sheet.specs.declared.sheet.Sheet.{Sheet}
use Rattle.fux_judge.specs.declared.state.State.{State}
use Rattle.fux_judge.specs.Penalties.{newly_broken, paid}
use Rattle.fux_judge.specs.Rules.{is_read}
use Rattle.fux_judge.specs.States.{IsStateOf}

-- whatever columns the state is of, this holds of them with the new one behind them
abbrev pub Grown : Exercise → State → List Cell → (Columns → Type 0) → Type 0
Grown ex state col Holds = (p : Columns) → IsStateOf ex p state → Holds (p ++ col ∷ [])

-- so it does where those are a prefix
abbrev pub GrownPrefix : Exercise → State → List Cell → (Columns → Type 0) → Type 0
GrownPrefix ex state col Holds =
    (p : Columns) → IsStateOf ex p state → IsPrefix ex (p ++ col ∷ []) → Holds (p ++ col ∷ [])

-- whatever orderly prefix the state is of that goes on by the column, this holds of the two
abbrev pub GoingOn : Exercise → State → List Cell → (Columns → List Cell → Type 0) → Type 0
GoingOn ex state col Holds = (p : Columns) → IsStateOf ex p state → GoesOn ex p (col ∷ []) → Holds p col

-- whatever prefix the state is of, this holds of it
abbrev pub AtPrefix : Exercise → State → (Columns → Type 0) → Type 0
AtPrefix ex state Holds = (p : Columns) → IsStateOf ex p state → IsPrefix ex p → Holds p

-- the set has those rules that are read of which the column settles a strict break
abbrev pub HasBroken : Exercise → Columns → List Cell → ℕ → Type 0
HasBroken ex p col set = (r : ℕ) → has_rule set r ≡ (is_read r && newly_broken ex p col r)

-- by so much more is paid of the prefix with the column
abbrev pub PaysMore : Exercise → Sheet → Columns → List Cell → ℕ → Type 0
PaysMore ex sheet p col more = paid ex sheet (p ++ col ∷ []) ≡ paid ex sheet p + more
