use Rattle.std.proofs.Common.{◌≡◌, ◌≤◌, length}
use Rattle.fux_grid.specs.Columns.{notes_up_to}
use Rattle.class_marker.specs.Notes.{turning_from}
use Rattle.class_marker.proofs.far.turning_from.Given as goal

-- what is asked of the notes that are left was asked of all
abbrev pub invariant-loop-before : goal.invariant-loop-before
invariant-loop-before l = record {
  within : l.here.start ≤ length l.score.columns;
  same : turning_from l.after l.here (notes_up_to l.score.columns l.v l.here.start)
      ≡ turning_from l.fn.after l.fn.here (notes_up_to l.score.columns l.v l.fn.here.start);
}

abbrev pub decreases-loop-before : goal.decreases-loop-before
decreases-loop-before l = l.here.start
