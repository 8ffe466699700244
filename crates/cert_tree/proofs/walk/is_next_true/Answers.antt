use Rattle.std.proofs.Common.{IsTrue, reverse, refl, sym, subst}
use Rattle.std.specs.Prelude.{◌↔◌}
use Rattle.cert_tree.specs.Walks.{IsFound}
use Rattle.cert_tree.proofs.Levels.{same_owed, same_steps}
use Rattle.cert_tree.proofs.walk.is_next_true.Goals as goal

pub returns-clause-told : goal.returns-clause-told
returns-clause-told g c =
    let it = c.args.it.now in
    let tree = g.T.ClaimTree in
    subst (λ p. IsTrue c.judge_newest.result ↔ (tree.tree it).IsTrueOf p c.args.claim)
    (sym (same_steps (tree.ways it) (reverse c.judge_newest.new.levels.items)
    (reverse c.args.walk.now.levels.items) c.judge_newest.ensures.steps).0)
    c.judge_newest.ensures.told

pub returns-clause-found : goal.returns-clause-found
returns-clause-found g c =
    let it = c.args.it.now in
    let tree = g.T.ClaimTree in
    subst (λ p. IsFound (tree.is_of it) p c.judge_newest.new.found)
    (sym (same_steps (tree.ways it) (reverse c.judge_newest.new.levels.items)
    (reverse c.args.walk.now.levels.items) c.judge_newest.ensures.steps).0)
    c.judge_newest.ensures.found

pub returns-clause-owed : goal.returns-clause-owed
returns-clause-owed g c =
    let it = c.args.it.now in
    let tree = g.T.ClaimTree in
    same_owed (tree.ways it) (reverse c.judge_newest.new.levels.items) (reverse c.args.walk.now.levels.items)
    c.args.walk.now.root c.args.walk.now.root c.judge_newest.ensures.steps refl
