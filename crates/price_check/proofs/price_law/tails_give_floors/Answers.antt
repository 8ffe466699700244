use Rattle.price_check.proofs.ListSums as sums
use Rattle.price_check.proofs.price_law.tails_give_floors.Goals as goal

pub returns : goal.returns
returns c = sums.tails_give_floors
