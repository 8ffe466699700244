use Rattle.std.proofs.Common.{◌≡◌, ◌-◌, ◌≤◌}
use Rattle.cert_law.specs.Rests.{entries_from}
use Rattle.fux_grid.specs.Exercises.{columns_in}
use Rattle.cert_writer.proofs.entries.stage_from.Given as goal

-- the places so far have no entry
abbrev pub invariant-loop-place : goal.invariant-loop-place
invariant-loop-place l = record {
  within : l.place ≤ columns_in l.case.exercise.now;
  left : entries_from l.case.exercise.now l.case.sheet.now l.place (columns_in l.case.exercise.now - l.place)
      ≡ entries_from l.case.exercise.now l.case.sheet.now l.from (columns_in l.case.exercise.now - l.from);
}

abbrev pub decreases-loop-place : goal.decreases-loop-place
decreases-loop-place l = l.places - l.place
