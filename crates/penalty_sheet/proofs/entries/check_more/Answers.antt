use Rattle.penalty_sheet.proofs.OrderLemmas.{keys_ascend-sorted}
use Rattle.penalty_sheet.proofs.entries.check_more.Goals as goal

pub returns-in_err-check_further-clause-ordered : goal.returns-in_err-check_further-clause-ordered
returns-in_err-check_further-clause-ordered c =
    keys_ascend-sorted c.args.table.now.entries c.iter-key-items.ensures.ordered

pub returns-clause-ordered : goal.returns-clause-ordered
returns-clause-ordered c = keys_ascend-sorted c.args.table.now.entries c.iter-key-items.ensures.ordered
