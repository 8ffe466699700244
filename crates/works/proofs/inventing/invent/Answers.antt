use Rattle.works.specs.Invented.{plan_of}
use Rattle.works.proofs.CantusLemmas.{tells_cantus}
use Rattle.works.proofs.inventing.invent.Goals as goal

pub returns : goal.returns
returns c =
    let priced = c.args.priced.now in
    tells_cantus c.space_of-space.result (plan_of c.args.wanted.now priced.sheet priced.prices) c.args.search _ _ c.space_of-space.ensures
    c.in_ok-told.ensures
