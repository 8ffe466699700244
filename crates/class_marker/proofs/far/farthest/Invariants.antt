use Rattle.std.proofs.Common.{◌≡◌, ◌≤◌, length}
use Rattle.fux_grid.specs.Columns.{notes_up_to}
use Rattle.class_marker.specs.Notes.{farthest}
use Rattle.class_marker.proofs.far.farthest.Given as goal

-- what is asked of the notes that are left was asked of all
abbrev pub invariant-loop-other : goal.invariant-loop-other
invariant-loop-other l = record {
  within : l.end ≤ length l.score.columns;
  far : l.far.start ≤ length l.score.columns;
  same : farthest l.note.pitch l.far (notes_up_to l.score.columns l.v l.end)
      ≡ farthest l.note.pitch l.note (notes_up_to l.score.columns l.v l.note.start);
}

abbrev pub decreases-loop-other : goal.decreases-loop-other
decreases-loop-other l = l.end
