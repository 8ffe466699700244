use Rattle.penalty_sheet.proofs.OrderLemmas.{keys_ascend-sorted}
use Rattle.penalty_sheet.proofs.entries.check_keys.Goals as goal

pub returns-in_err-key-clause-ordered : goal.returns-in_err-key-clause-ordered
returns-in_err-key-clause-ordered c = keys_ascend-sorted c.args.document.now.entries c.iter-key-items.ensures.ordered

pub returns-then-ne-2-clause-ordered : goal.returns-then-ne-2-clause-ordered
returns-then-ne-2-clause-ordered c = keys_ascend-sorted c.args.document.now.entries c.iter-key-items.ensures.ordered

pub returns-clause-ordered : goal.returns-clause-ordered
returns-clause-ordered c = keys_ascend-sorted c.args.document.now.entries c.iter-key-items.ensures.ordered
