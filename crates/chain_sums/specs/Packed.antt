-- A column as one number. Numbers of columns of one length go in reading order.
use Rattle.std.specs.Prelude.{ℕ, ◌+◌, ◌*◌, ◌^◌, List, unsigned_abs}
use Rattle.fux_pitch.specs.declared.pitch.Pitch.{Pitch}
use Rattle.fux_pitch.specs.Pitch.{key_of, degree_of}
use Rattle.fux_grid.specs.declared.cell.Cell.{Cell}
use Rattle.fux_grid.specs.declared.cell.Cell.TheVariants.{Rest, Hold, Start}
use Rattle.fux_grid.specs.Cells.{cell_in}

-- a pitch: its key, then its degree in six bits
abbrev pub packed_pitch : Pitch → ℕ
packed_pitch p = 64 * unsigned_abs (key_of p) + degree_of p

-- a cell: what it does, then its pitch in thirteen bits
abbrev pub packed_cell : Cell → ℕ
packed_cell Rest = 0
packed_cell (Hold p) = 8192 + packed_pitch p
packed_cell (Start p) = 16384 + packed_pitch p

-- a column of at most four cells: sixteen bits for each voice, the lowest voice in the highest ones
abbrev pub packed : List Cell → ℕ
packed col =
    2 ^ 48 * packed_cell (cell_in col 0)
    + (2 ^ 32 * packed_cell (cell_in col 1) + (2 ^ 16 * packed_cell (cell_in col 2) + packed_cell (cell_in col 3)))
