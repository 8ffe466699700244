use Rattle.std.proofs.Common.{sym, ◌∙◌}
use Rattle.std.proofs.lemmas.Bool.{OnFalse_at, OnTrue_at}
use Rattle.cert_tree.specs.Judgings.{standing_of}
use Rattle.cert_tree.proofs.Fed.{are_certified, are_none, some_none}
use Rattle.cert_tree.proofs.judging.finish.Goals as goal

pub returns-in-Some-clause-uncertified : goal.returns-in-Some-clause-uncertified
returns-in-Some-clause-uncertified g c =
    let it = c.args.it.now in
    let tree = g.T.ClaimTree in
    are_none (tree.tree it) (tree.root it) (standing_of (tree.ways it) c.args.judging.now)
    (λ unrefused none. some_none c.in-Some.refused (sym c.in-Some.is ∙ unrefused))

pub returns-then-owes_some-clause-uncertified : goal.returns-then-owes_some-clause-uncertified
returns-then-owes_some-clause-uncertified g c =
    let it = c.args.it.now in
    let tree = g.T.ClaimTree in
    are_none (tree.tree it) (tree.root it) (standing_of (tree.ways it) c.args.judging.now)
    (λ unrefused none. OnTrue_at c.if-owes_some.true c.owes_some.ensures.some none)

pub returns-clause-certified : goal.returns-clause-certified
returns-clause-certified g c =
    let it = c.args.it.now in
    let tree = g.T.ClaimTree in
    are_certified (tree.tree it) (tree.root it) (standing_of (tree.ways it) c.args.judging.now) c.in_default.is
    (OnFalse_at c.if-owes_some.false c.owes_some.ensures.none)
