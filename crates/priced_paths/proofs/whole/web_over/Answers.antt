use Rattle.std.proofs.Common.{ap, arith, length}
use Rattle.priced_paths.proofs.Laying.{web_from_laid}
use Rattle.priced_paths.proofs.whole.web_over.Goals as goal

pub returns : goal.returns
returns g c =
    web_from_laid c.args.states.now.keys c.requires c.loop-at.at c.loop-at.web c.loop-at.invariant
    (omega (arith, ap length c.as_slice-keys.ensures.keys, c.loop-at-test.false, c.loop-at.auto.at-end))
