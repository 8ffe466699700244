use Rattle.std.proofs.Common.{◌++◌, ap, ◌∙◌, arith}
use Rattle.chunk_laws.proofs.Parts.{one_part}
use Rattle.chunk_laws.proofs.gathering.gathered.Goals as goal

pub loop-part-preserved : goal.loop-part-preserved
loop-part-preserved g c =
    one_part c.args.parts.now c.loop-part.part-index c.part-item.result c.in-Ok.items c.loop-part.all.items
    c.extend_from_slice.new.self.items (omega arith) (cc) c.loop-part.invariant
    (c.in_ok-extend_from_slice-in-Ok.ensures.items ∙ ap (λ xs. c.loop-part.all.items ++ xs) c.deref.ensures.value)
