use Rattle.std.proofs.Common.{sym, subst}
use Rattle.cert_law.specs.Known.{IsKnown, Tailed, tree_in, ways_of}
use Rattle.cert_tree.specs.Walks.{IsNextOf, IsOfOpen}
use Rattle.cert_law.proofs.tailed.TailedCaseClaimTree.next.Goals as goal

pub next_step-requires-clause-open_node : goal.next_step-requires-clause-open_node
next_step-requires-clause-open_node g c =
    subst (λ (t : Tailed). IsOfOpen (tree_in t) (IsKnown t) c.args.known.now) (sym c.self.view_is) c.requires.open_node

pub returns : goal.returns
returns g c =
    subst
    (λ (t : Tailed). IsNextOf (IsKnown t) (ways_of t.case.exercise) c.args.known.now c.args.from c.next_step.result)
    c.self.view_is c.next_step.ensures
