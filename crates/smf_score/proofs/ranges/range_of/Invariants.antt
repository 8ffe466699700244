use Rattle.std.proofs.Common.{◌≡◌, ◌≤◌, drop, length}
use Rattle.smf_score.specs.Ranges.{range_in}
use Rattle.smf_score.proofs.ranges.range_of.Given as goal

-- the range of the notes that were taken, from the last one on
abbrev pub invariant-loop-i : goal.invariant-loop-i
invariant-loop-i l = record {
  read : l.line ≡ range_in l.voice (drop l.i l.notes);
  within : l.i ≤ length l.notes;
}

abbrev pub decreases-loop-i : goal.decreases-loop-i
decreases-loop-i l = l.i
