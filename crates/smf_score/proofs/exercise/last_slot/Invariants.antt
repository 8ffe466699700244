use Rattle.std.proofs.Common.{◌≡◌, ◌≤◌, drop, length}
use Rattle.smf_score.specs.Exercise.{last_slot}
use Rattle.smf_score.proofs.exercise.last_slot.Given as goal

-- the end of the voices that were taken, from the last one on
abbrev pub invariant-loop-i : goal.invariant-loop-i
invariant-loop-i l = record {
  read : l.last ≡ last_slot (drop l.i l.voices);
  within : l.i ≤ length l.voices;
}

abbrev pub decreases-loop-i : goal.decreases-loop-i
decreases-loop-i l = l.i
