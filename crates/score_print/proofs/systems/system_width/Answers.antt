use Rattle.std.proofs.Common.{◌≡◌, ◌+◌, ◌-◌, ap, arith}
use Rattle.std.specs.List.{range_with_len}
use Rattle.score_print.specs.Systems.{bar_width, system_width}
use Rattle.score_print.proofs.RowSteps.{range-next}
use Rattle.score_print.proofs.systems.system_width.Goals as goal

pub loop-bar-preserved : goal.loop-bar-preserved
loop-bar-preserved c =
    let ex = c.args.ex.now in
    let slots = c.args.slots in
    let bar = c.loop-bar.bar in
    let next : system_width ex slots (range_with_len bar (c.args.end - bar))
    ≡ bar_width ex bar slots + system_width ex slots (range_with_len (bar + 1) (c.args.end - (bar + 1))) =
    ap (system_width ex slots) (range-next bar c.args.end c.loop-bar-test.true) in record {
      value = omega (arith, next, c.bar_width-width.ensures.value, c.loop-bar.invariant.value);
      most = omega (arith, c.bar_width-width.ensures.most, c.loop-bar.invariant.most);
    }
