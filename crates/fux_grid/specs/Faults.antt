-- Why a score doesn't take a column.
use Rattle.std.specs.Prelude.{ℕ, ◌==◌, not, List, [], ◌∷◌, Option, Some, length, reverse, find, option_map, if◌then◌else◌}
use Rattle.fux_grid.specs.declared.cell.Cell.{Cell}
use Rattle.fux_grid.specs.declared.cell.Cell.TheVariants.{Rest, Hold, Start}
use Rattle.fux_grid.specs.declared.score.GridFault.{GridFault}
use Rattle.fux_grid.specs.declared.score.GridFault.TheVariants.{Full, Voices, HoldAtStart, HoldAfterRest, HoldMoved}
use Rattle.fux_grid.specs.Cells.{cell_in, cell_follows}
use Rattle.fux_grid.specs.Columns.{newest_column}
use Rattle.fux_grid.specs.Grid.{Grid}

-- the voices that a score may have, from the lowest
abbrev pub all_voices : List ℕ
all_voices = 0 ∷ 1 ∷ 2 ∷ 3 ∷ []

-- the lowest voice whose cell may not follow the one before it
abbrev pub lowest_misfit : List Cell → List Cell → Option ℕ
lowest_misfit before next = find (λ v. not (cell_follows (cell_in before v) (cell_in next v))) all_voices

-- why a voice may not go on with a hold after a cell
abbrev pub hold_fault_after : Cell → ℕ → GridFault
hold_fault_after Rest v = HoldAfterRest v
hold_fault_after (Hold p) v = HoldMoved v
hold_fault_after (Start p) v = HoldMoved v

-- the same after the columns of a score, of which the newest comes first
abbrev pub hold_fault : List (List Cell) → ℕ → GridFault
hold_fault [] v = HoldAtStart v
hold_fault (col ∷ cols) v = hold_fault_after (cell_in col v) v

-- why a score doesn't take a column; nothing where it takes it
abbrev pub push_fault : Grid → List Cell → Option GridFault
push_fault score col =
    if length score.columns == 192 then Some Full
    else (if length col == score.voices then option_map (hold_fault (reverse score.columns))
    (lowest_misfit (newest_column (reverse score.columns)) col)
    else Some Voices)
