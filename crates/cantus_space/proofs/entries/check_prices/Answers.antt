use Rattle.penalty_sheet.proofs.OrderLemmas.{keys_ascend-sorted}
use Rattle.cantus_space.proofs.entries.check_prices.Goals as goal

pub returns-in_err-check_price-clause-ordered : goal.returns-in_err-check_price-clause-ordered
returns-in_err-check_price-clause-ordered c =
    keys_ascend-sorted c.args.table.now.entries c.iter-key-items.ensures.ordered

pub returns-clause-ordered : goal.returns-clause-ordered
returns-clause-ordered c = keys_ascend-sorted c.args.table.now.entries c.iter-key-items.ensures.ordered
