-- The note that a voice sounds, and where it started.
use Rattle.std.specs.Prelude.{ℕ, Bool, false, nat_lt, List, Option, Some, None, if◌then◌else◌}
use Rattle.fux_grid.specs.declared.cell.Cell.{Cell}
use Rattle.fux_grid.specs.declared.cell.Note.{Note}
use Rattle.fux_grid.specs.Cells.{cell_in, first_of, notes_from}
use Rattle.fux_grid.specs.Columns.{line, newest_column}
use Rattle.rule_law.specs.Terms.{sounds}

-- the note that a voice sounds in the newest of these columns
abbrev pub sounding_note : ℕ → List (List Cell) → Option Note
sounding_note v behind =
    if sounds (cell_in (newest_column behind) v) then first_of (notes_from 0 (line v behind)) else None

-- a note is there, and started after column k
abbrev pub started_after : ℕ → Option Note → Bool
started_after k None = false
started_after k (Some note) = nat_lt k note.start
