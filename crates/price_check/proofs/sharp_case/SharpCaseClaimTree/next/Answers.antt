use Rattle.std.proofs.Common.{subst, sym}
use Rattle.cert_law.specs.Known.{IsKnown, Tailed, tree_in as plain_tree, ways_of}
use Rattle.cert_tree.specs.Walks.{IsNextOf, IsOfOpen}
use Rattle.price_check.specs.Sharps.{IsSharpKnown, Sharp, plain_of}
use Rattle.price_check.proofs.SharpLemmas.{plain_open}
use Rattle.price_check.proofs.sharp_case.SharpCaseClaimTree.next.Goals as goal

pub next-requires-clause-open_node : goal.next-requires-clause-open_node
next-requires-clause-open_node c =
    subst (λ (t : Tailed). IsOfOpen (plain_tree t) (IsKnown t) c.args.known.now.own) (sym c.self.invariant.without)
    (subst (λ (s : Sharp). IsOfOpen (plain_tree (plain_of s.case)) (IsKnown (plain_of s.case)) c.args.known.now.own)
    (sym c.self.view_is) (plain_open c.args.self.now c.args.known.now c.requires.open_node))

pub returns : goal.returns
returns c =
    subst (λ (s : Sharp). IsNextOf (IsSharpKnown s) (ways_of s.case.exercise) c.args.known.now c.args.from c.next.result)
    c.self.view_is
    (λ p is. (subst (λ (t : Tailed). IsNextOf (IsKnown t) (ways_of t.case.exercise) c.args.known.now.own c.args.from c.next.result)
    c.self.invariant.without c.next.ensures) p is.own)
