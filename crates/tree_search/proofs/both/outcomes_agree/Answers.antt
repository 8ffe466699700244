use Rattle.tree_search.proofs.Agreement.{outcomes_agree}
use Rattle.tree_search.proofs.both.outcomes_agree.Goals as goal

pub returns : goal.returns
returns g c = λ one other. outcomes_agree (g.S.Space.live c.args.space.now) (g.S.Space.height c.args.space.now)
    c.args.one.now c.args.other.now one other
