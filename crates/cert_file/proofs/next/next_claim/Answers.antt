use Rattle.std.proofs.Common.{subst}
use Rattle.std.specs.List.{AllByRecursion}
use Rattle.cert_text.specs.Lines.{IsClaim}
use Rattle.cert_tree.specs.Writing.{claims_to_come}
use Rattle.cert_file.proofs.Fits.{next-fits, to_come-fit}
use Rattle.cert_file.proofs.next.next_claim.Goals as goal

pub returns-clause-claim : goal.returns-clause-claim
returns-clause-claim g c =
    let it = c.args.it.now in
    let tree = g.T.ClaimTree.tree it in
    let own = g.T.ClaimTree.own it in
    let ways = g.T.ClaimTree.ways it in
    next-fits c.next_claim.result (claims_to_come tree own ways c.next_claim.new.walk)
    (subst (AllByRecursion IsClaim) c.next_claim.ensures.claims
    (to_come-fit tree own c.requires.lines ways c.args.walk.now))
