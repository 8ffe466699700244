use Rattle.std.proofs.lemmas.Bool.{OnTrue_at}
use Rattle.chain_sums.proofs.choices.may_follow.Goals as goal

pub returns-then-always : goal.returns-then-always
returns-then-always c = (λ _. OnTrue_at c.if-always.true c.requires c.args.prev.now.items, λ _. c.if-always.true)

pub returns-else-always : goal.returns-else-always
returns-else-always c = c.follows.ensures
