use Rattle.std.proofs.Common.{reverse, refl, ap, sym, ◌∙◌, subst}
use Rattle.cert_tree.specs.Walks.{IsFound}
use Rattle.cert_tree.proofs.Levels.{same_owed, same_steps}
use Rattle.cert_tree.proofs.walk.own_next.Goals as goal

pub returns-clause-own : goal.returns-clause-own
returns-clause-own g c =
    let it = c.args.it.now in
    let tree = g.T.ClaimTree in
    c.tell_newest.ensures.own
    ∙ ap (tree.own it) (sym (same_steps (tree.ways it) (reverse c.tell_newest.new.levels.items)
    (reverse c.args.walk.now.levels.items) c.tell_newest.ensures.steps).0)

pub returns-clause-found : goal.returns-clause-found
returns-clause-found g c =
    let it = c.args.it.now in
    let tree = g.T.ClaimTree in
    subst (λ p. IsFound (tree.is_of it) p c.tell_newest.new.found)
    (sym (same_steps (tree.ways it) (reverse c.tell_newest.new.levels.items)
    (reverse c.args.walk.now.levels.items) c.tell_newest.ensures.steps).0)
    c.tell_newest.ensures.found

pub returns-clause-owed : goal.returns-clause-owed
returns-clause-owed g c =
    let it = c.args.it.now in
    let tree = g.T.ClaimTree in
    same_owed (tree.ways it) (reverse c.tell_newest.new.levels.items) (reverse c.args.walk.now.levels.items)
    c.args.walk.now.root c.args.walk.now.root c.tell_newest.ensures.steps refl
