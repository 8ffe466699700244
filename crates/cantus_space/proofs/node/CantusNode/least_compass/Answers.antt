use Rattle.std.proofs.Common.{◌≡◌, refl, ◌∙◌, arith}
use Rattle.cantus_space.proofs.NodeLemmas.{compass_by, compass_of}
use Rattle.cantus_space.proofs.node.CantusNode.least_compass.Goals as goal

pub returns-clause-value : goal.returns-clause-value
returns-clause-value c = λ behind kept there.
    let nothing : c.args.ahead ≡ 0 = omega (arith, c.if-ahead-ne0.false) in
    c.from.ensures
    ∙ compass_by c.args.plan.now behind c.args.self.now kept c.args.ahead c.is_narrow.result there nothing
    (c.is_narrow.ensures behind (compass_of c.args.plan.now behind c.args.self.now kept _ refl))
