use Rattle.std.proofs.Common.{◌≡◌, ◌≤◌, drop, length}
use Rattle.smf_score.specs.Exercise.{last_end}
use Rattle.smf_score.proofs.exercise.last_end.Given as goal

-- the end of the notes that were taken, from the last one on
abbrev pub invariant-loop-i : goal.invariant-loop-i
invariant-loop-i l = record {
  read : l.last ≡ last_end (drop l.i l.notes);
  within : l.i ≤ length l.notes;
}

abbrev pub decreases-loop-i : goal.decreases-loop-i
decreases-loop-i l = l.i
