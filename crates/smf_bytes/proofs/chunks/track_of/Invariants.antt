use Rattle.std.proofs.Common.{◌≤◌, List, ℕ, length}
use Rattle.smf_bytes.specs.declared.fault.ByteFault.{ByteFault}
use Rattle.smf_bytes.specs.Files.{IsTrack, IsTrackFault}
use Rattle.smf_bytes.proofs.chunks.track_of.Given as goal

-- the next track of the rest is that of all bytes
abbrev pub invariant-loop-rest : goal.invariant-loop-rest
invariant-loop-rest l = record {
  found : (body rest : List ℕ) → IsTrack l.rest body rest → IsTrack l.bytes body rest;
  lacks : (fault : ByteFault) → IsTrackFault l.size l.rest fault → IsTrackFault l.size l.bytes fault;
  shorter : length l.rest ≤ length l.bytes;
}

abbrev pub decreases-loop-rest : goal.decreases-loop-rest
decreases-loop-rest l = length l.rest
