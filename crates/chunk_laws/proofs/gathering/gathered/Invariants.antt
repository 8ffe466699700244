use Rattle.std.proofs.Common.{take}
use Rattle.chunk_laws.specs.Gathered.{AreGathered}
use Rattle.chunk_laws.proofs.gathering.gathered.Given as goal

abbrev pub invariant-loop-part : goal.invariant-loop-part
invariant-loop-part g l = AreGathered (take l.part-index l.parts) l.all.items
