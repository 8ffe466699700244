use Rattle.cantus_check.proofs.PoolLists.{pool_is_listed}
use Rattle.cantus_check.proofs.law.pools_are_listed.Goals as goal

pub returns : goal.returns
returns c = pool_is_listed c.args.space.now
