use Rattle.cert_tree.proofs.Shown.{none_refutes_from}
use Rattle.cert_tree.proofs.law.shown_by.Goals as goal

pub returns : goal.returns
returns g c = λ claims certified.
    let it = c.args.it.now in
    let tree = g.T.ClaimTree in
    let met = g.met.T.ClaimTree in
    none_refutes_from (tree.tree it) (tree.begins it) (tree.refutes it) (met.excludes it) (tree.root it)
    claims certified (met.root_begins it)
