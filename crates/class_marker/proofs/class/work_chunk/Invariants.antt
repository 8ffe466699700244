use Rattle.std.proofs.Common.{◌≤◌, take, zip}
use Rattle.class_marker.specs.Reports.{IsPart}
use Rattle.class_marker.proofs.class.work_chunk.Given as goal

abbrev pub invariant-loop-k : goal.invariant-loop-k
invariant-loop-k l = record {
  so_far : IsPart (take l.k (zip l.names l.texts)) l.part;
  marked : l.part.marked ≤ l.k;
  refused : l.part.refused ≤ l.k;
}
