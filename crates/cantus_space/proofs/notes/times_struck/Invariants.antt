-- What the count keeps.
use Rattle.std.proofs.Common.{◌≡◌, ◌≤◌, take}
use Rattle.std.specs.Prelude.{count_by}
use Rattle.fux_pitch.specs.Pitch.{same_pitch}
use Rattle.cantus_space.proofs.notes.times_struck.Given as goal

-- those so far are counted
abbrev pub invariant-loop-other : goal.invariant-loop-other
invariant-loop-other l = record {
  counted : l.count ≡ count_by (same_pitch l.pitch) (take l.other-index l.struck);
  few : l.count ≤ l.other-index;
}
