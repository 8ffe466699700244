use Rattle.std.proofs.Common.{append_assoc}
use Rattle.class_marker.proofs.whole_report.put_counts.Goals as goal

pub returns : goal.returns
returns c = simp append_assoc c.in_ok-write.ensures.bytes
