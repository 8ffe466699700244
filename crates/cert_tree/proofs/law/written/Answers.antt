use Rattle.cert_tree.proofs.OwnClaims.{written_from}
use Rattle.cert_tree.proofs.law.written.Goals as goal

pub returns : goal.returns
returns g c = λ count holds.
    let it = c.args.it.now in
    let tree = g.T.ClaimTree in
    written_from (tree.tree it) (tree.own it) count (tree.root it) holds
