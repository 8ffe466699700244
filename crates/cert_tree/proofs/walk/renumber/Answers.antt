use Rattle.std.proofs.Common.{arith, ◌≡◌, ◌-◌, ◌∷◌, [], length, ap}
use Rattle.std.proofs.lemmas.List.{length-append}
use Rattle.cert_tree.proofs.Levels.{renumbered}
use Rattle.cert_tree.proofs.walk.renumber.Goals as goal

pub returns-clause-items : goal.returns-clause-items
returns-clause-items g c = λ older level e.
    let at : c.len-top.result - 1 ≡ length older = omega (arith, ap length e, length-append older (level ∷ [])) in
    renumbered c.args.levels.now.items older level c.index_mut.result.now (c.len-top.result - 1) c.args.number e at
    c.index_mut.ensures.value
