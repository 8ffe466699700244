use Rattle.std.proofs.Common.{◌≡◌, drop}
use Rattle.fux_grid.specs.Cells.{onsets_from}
use Rattle.fux_grid.specs.Columns.{line}
use Rattle.fux_grid.specs.Notes.{NoStart}
use Rattle.fux_grid.proofs.notes.onset_ahead.Given as goal

abbrev pub invariant-loop-j : goal.invariant-loop-j
invariant-loop-j l = record {
  same : onsets_from l.n (line l.v (drop l.n l.score.columns)) ≡ onsets_from l.j (line l.v (drop l.j l.score.columns));
  none : NoStart l.score.columns l.v l.n l.j;
}
