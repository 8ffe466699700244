use Rattle.std.proofs.Common.{arith, sym, ◌∙◌}
use Rattle.class_marker.proofs.NoteSteps.{turning-on}
use Rattle.class_marker.proofs.far.turning_from.Goals as goal

pub loop-before-preserved : goal.loop-before-preserved
loop-before-preserved c = record {
  within = omega (arith, c.in-Some.ensures.start, c.loop-before.invariant.within);
  same =
      sym (turning-on c.loop-before.after c.loop-before.here c.in-Some.before _ _
      c.in-Some.ensures.rest (sym c.is_turned.ensures ∙ c.if-is_turned.false))
      ∙ c.loop-before.invariant.same;
}
