use Rattle.std.proofs.Common.{IsTrue, List, sym, subst}
use Rattle.std.specs.Prelude.{◌↔◌}
use Rattle.cert_law.specs.Cases.{matter_of}
use Rattle.cert_law.specs.Claims.{IsTrueOf}
use Rattle.cert_law.specs.Known.{IsKnown, Tailed, tailed_of}
use Rattle.cert_law.proofs.KnownLemmas.{known_small}
use Rattle.cert_tree.specs.Walks.{IsOfSome}
use Rattle.fux_grid.specs.declared.cell.Cell.{Cell}
use Rattle.cert_law.proofs.tailed.TailedCaseClaimTree.is_true.Goals as goal

pub is_true-requires-clause-small : goal.is_true-requires-clause-small
is_true-requires-clause-small g c =
    let it = c.self.inside in
    known_small (tailed_of (matter_of it.case) (g.T.Tails.basis it.tails.now)) c.args.known.now c.self.invariant.case
    (subst (λ (t : Tailed). IsOfSome (IsKnown t) c.args.known.now) (sym c.self.view_is) c.requires)

pub returns : goal.returns
returns g c =
    subst
    (λ (t : Tailed). (p : List (List Cell)) → IsKnown t c.args.known.now p
    → IsTrue c.is_true.result ↔ IsTrueOf t.case.exercise t.case.sheet t.case.head t.stated p c.args.claim)
    c.self.view_is
    (λ p is. c.is_true.ensures (g.T.Tails.basis c.self.inside.tails.now).stated p is.judged is.tail)
