-- What is kept of perfect intervals at the beginning of a bar behind a column.
use Rattle.std.specs.Prelude.{ℕ, Bool, ◌&&◌, List, reverse, if◌then◌else◌}
use Rattle.fux_grid.specs.declared.cell.Cell.{Cell}
use Rattle.fux_grid.specs.declared.exercise.Exercise.{Exercise}
use Rattle.open_ends.specs.declared.keeps.Keeps.{Keeps}
use Rattle.open_ends.specs.declared.parallels.OpenParallels.{OpenParallels}
use Rattle.open_ends.specs.BarLines.{arrives, bar_line_after, bar_line_in, is_read, no_pitches}
use Rattle.open_ends.specs.Parts.{Step, Waits, where_read}

-- nothing is open
abbrev pub nothing : OpenParallels
nothing = record { pitches = no_pitches }

-- perfect intervals are followed, and S18 is asked
abbrev pub is_followed : Exercise → Keeps → Bool
is_followed ex keeps = keeps.parallels && is_read ex

-- what is kept of some columns, if they are
abbrev pub open_in : Waits OpenParallels
open_in ex keeps p = if is_followed ex keeps then record { pitches = bar_line_in ex (reverse p) } else nothing

-- what is kept with one column more
abbrev pub still_open : Exercise → ℕ → OpenParallels → List Cell → OpenParallels
still_open ex i kept now = record { pitches = bar_line_after ex i kept.pitches now }

abbrev pub open_after : Step OpenParallels
open_after ex keeps i kept before now =
    where_read (is_followed ex keeps) (arrives ex i kept.pitches now) nothing (still_open ex i kept now)
