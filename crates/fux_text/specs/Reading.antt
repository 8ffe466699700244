-- A note text as a table of lines, and what is read of its bytes.
use Rattle.std.specs.Prelude.{ℕ, List, Result}
use Rattle.fux_grid.specs.declared.exercise.Exercise.{Exercise}
use Rattle.fux_grid.specs.Grid.{Grid}
use Rattle.text_lines.specs.Faults.{Fault}
use Rattle.text_lines.specs.Tables.{Format, Table, text_read}
use Rattle.fux_text.specs.declared.fault.TextKind.TheVariants as kinds
use Rattle.fux_text.specs.Head.{head_table, version_table}
use Rattle.fux_text.specs.Fitting.{any_cells, line_fits}
use Rattle.fux_text.specs.GivenLines.{given_lines_of}
use Rattle.fux_text.specs.Ranges.{ranges_table}
use Rattle.fux_text.specs.Relaxing.{relax_lines_of}
use Rattle.fux_text.specs.Sing.{setting_table, sung_table}
use Rattle.fux_text.specs.declared.fault.TextKind.{TextKind}

-- the lines behind those before the ranges, in a version: the cells of a setting have to fit what
-- is given
abbrev pub later_table : ℕ → Exercise → Table TextKind Exercise
later_table version ex =
    Table.behind (ranges_table ex) (λ ranges.
    Table.behind (Table.many (relax_lines_of ex)) (λ relax.
    Table.behind (Table.many (given_lines_of version ex)) (λ given.
    Table.behind (setting_table (line_fits (record ex { given = given })) ex) (λ setting.
    Table.says (record ex { ranges = ranges; relax = relax; given = given; setting = setting })))))

-- texts of such lines, whose faults are those of a note text
abbrev pub note_format : {R : Type 0} → Table TextKind R → Format TextKind R
note_format lines = record { too_long = kinds.TooLong; not_utf8 = kinds.NotUtf8; lines = lines }

-- the lines of a note text
abbrev pub note_table : Table TextKind Exercise
note_table = Table.behind version_table (λ version. Table.behind head_table (later_table version))

-- the exercise of a text
unfoldable pub exercise_in : List ℕ → Result Exercise (Fault TextKind)
exercise_in bytes = text_read (note_format note_table) bytes

-- the setting of an exercise in a text of `sing` lines alone, whatever is given
unfoldable pub setting_alone : Exercise → List ℕ → Result Grid (Fault TextKind)
setting_alone ex bytes = text_read (note_format (sung_table any_cells ex)) bytes
