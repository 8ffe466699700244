use Rattle.canon_space.proofs.BarLemmas.{bar-before}
use Rattle.canon_space.proofs.bars.bar_before.Goals as goal

pub returns : goal.returns
returns c = bar-before c.args.bars.now c.args.count c.index-bars-bars.result c.requires c.if-count-bars.false
