-- What the next bar line asks of the note that the species voice sounds.
use Rattle.std.specs.Prelude.{ℕ, Bool, true, false, ◌&&◌, ◌||◌, List, reverse}
use Rattle.fux_grid.specs.declared.cell.Cell.{Cell}
use Rattle.fux_grid.specs.declared.exercise.Exercise.{Exercise}
use Rattle.open_ends.specs.declared.suspensions.OpenSuspensions.{OpenSuspensions}
use Rattle.open_ends.specs.Asked.{is_asked}
use Rattle.open_ends.specs.Parts.{Step, Waits, where_read}
use Rattle.open_ends.specs.Suspended.{is_bad_at, is_read, is_unprepared_at, size_rule, starts_late_after, starts_late_in}

-- no note started late
abbrev pub nothing : OpenSuspensions
nothing = record { late_start = false }

-- what is kept of some columns, if S19 is asked
abbrev pub open_in : Waits OpenSuspensions
open_in ex keeps p = record { late_start = is_read ex && starts_late_in (reverse p) ex.species_voice }

-- a column breaks S19 in every setting that goes on so: the species voice holds a note that isn't
-- prepared
abbrev pub breaks_preparation : Exercise → ℕ → OpenSuspensions → List Cell → List Cell → Bool
breaks_preparation ex i kept before now =
    is_read ex && is_unprepared_at i kept.late_start before now ex.species_voice

-- it breaks S21
abbrev pub breaks_size : Exercise → ℕ → List Cell → Bool
breaks_size ex i now = is_asked ex size_rule && is_bad_at i now ex.species_voice

-- what is kept with one column more
abbrev pub still_open : Exercise → ℕ → OpenSuspensions → List Cell → OpenSuspensions
still_open ex i kept now =
    record { late_start = is_read ex && starts_late_after i kept.late_start now ex.species_voice }

-- the step; none where the column breaks one of the two rules
abbrev pub open_after : Step OpenSuspensions
open_after ex keeps i kept before now =
    where_read true (breaks_preparation ex i kept before now || breaks_size ex i now) nothing (still_open ex i kept now)
