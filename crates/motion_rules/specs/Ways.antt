-- By what voices move from one column to the next, and which way.
use Rattle.std.specs.Prelude.{ℕ, ◌==◌, ◌&&◌, not, Bool, List, Option, Some, None, if◌then◌else◌}
use Rattle.fux_pitch.specs.declared.interval.Interval.{Interval}
use Rattle.fux_grid.specs.declared.cell.Cell.{Cell}
use Rattle.fux_grid.specs.Cells.{cell_in}
use Rattle.rule_law.specs.Terms.{falls, interval_of_cells, moves, rises}

-- the interval from one cell of a voice to the next, where it moves
abbrev pub way : Cell → Cell → Option Interval
way before now = if moves before now then interval_of_cells before now else None

abbrev pub way_of : List Cell → List Cell → ℕ → Option Interval
way_of before now v = way (cell_in before v) (cell_in now v)

-- which way that goes: 1 up, 2 down, 0 where it goes neither
abbrev pub heading_by : Option Interval → ℕ
heading_by None = 0
heading_by (Some i) = if rises i then 1 else (if falls i then 2 else 0)

abbrev pub heading : List Cell → List Cell → ℕ → ℕ
heading before now v = heading_by (way_of before now v)

-- two go up, or two go down
abbrev pub head_alike : ℕ → ℕ → Bool
head_alike one other = not (one == 0) && (one == other)
