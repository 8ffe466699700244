use Rattle.std.proofs.Common.{arith}
use Rattle.chain_sums.proofs.FreshLemmas.{fresh_follows}
use Rattle.chain_sums.proofs.fresh.is_fresh.Goals as goal

pub returns : goal.returns
returns c = fresh_follows c.args.column.now (λ v h. c.loop-cell.invariant v (omega (arith, h, c.loop-cell-test.false)))
