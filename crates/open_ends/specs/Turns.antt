-- What is kept of turning notes behind a column.
use Rattle.std.specs.Prelude.{◌&&◌, Bool, reverse, if◌then◌else◌}
use Rattle.fux_grid.specs.declared.exercise.Exercise.{Exercise}
use Rattle.fux_grid.specs.Cells.{cell_in}
use Rattle.open_ends.specs.declared.keeps.Keeps.{Keeps}
use Rattle.open_ends.specs.declared.notes.OpenTurns.{OpenTurns}
use Rattle.open_ends.specs.Asked.{is_asked}
use Rattle.open_ends.specs.Notes.{none, noted, noted_in, turns_badly, turns_rule}
use Rattle.open_ends.specs.Parts.{Step, Waits, where_read}

-- turning notes are followed, and S8 is asked
abbrev pub is_read : Exercise → Keeps → Bool
is_read ex keeps = keeps.turns && is_asked ex turns_rule

-- what is kept of some columns, if they are
abbrev pub open_in : Waits OpenTurns
open_in ex keeps p = if is_read ex keeps then noted_in ex (reverse p) else none

-- the step; none where the column breaks S8
abbrev pub open_after : Step OpenTurns
open_after ex keeps i kept before now =
    where_read (is_read ex keeps) (turns_badly kept (cell_in now ex.species_voice)) none
    (noted ex i kept (cell_in now ex.species_voice))
