use Rattle.fux_grid.specs.Columns.{line, earlier}
use Rattle.melody_rules.specs.Notes.{IsNotesOf}
use Rattle.melody_rules.proofs.notes.notes_before.Given as goal

abbrev pub invariant-loop-j : goal.invariant-loop-j
invariant-loop-j l = IsNotesOf (line l.v (earlier l.score.columns l.j)) l.notes
