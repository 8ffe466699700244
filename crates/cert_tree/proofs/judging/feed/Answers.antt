use Rattle.std.proofs.Common.{◌++◌, reverse, ap, sym, ◌∙◌, subst}
use Rattle.cert_tree.specs.Trees.{OwesRefuting}
use Rattle.cert_tree.specs.Walks.{owed_later, node_at}
use Rattle.cert_tree.proofs.Levels.{owed-taken}
use Rattle.cert_tree.proofs.Shown.{claim_kept}
use Rattle.cert_tree.proofs.judging.feed.Goals as goal

pub returns-clause-kept : goal.returns-clause-kept
returns-clause-kept g c =
    let it = c.args.it.now in
    let tree = g.T.ClaimTree in
    let met = g.met.T.ClaimTree in
    let walk = c.is_next_true.new.walk in
    let levels = reverse walk.levels.items in
    let ways = tree.ways it in
    let p = node_at ways levels in
    let later = owed_later ways levels in
    let holds = c.in-Some-is_next_true.ensures.told.0 c.if-not-told.false in
    let owed = sym c.in-Some-is_next_true.ensures.owed ∙ c.in-Some-is_next_true.ensures.owes in
    let after = c.go_on.ensures.owed
    ∙ ap (λ ps. ps ++ later)
    (owed-taken (tree.tree it) (tree.root it) ways (met.are_ways it) p c.args.claim c.is_open.result c.is_open.ensures) in
    record {
      walk = c.go_on.ensures.walk;
      owes = λ unrefused.
          let before = subst (λ ps. OwesRefuting (tree.begins it) (tree.refutes it) ps) owed
          (c.requires.kept.owes unrefused) in
          subst (λ ps. OwesRefuting (tree.begins it) (tree.refutes it) ps) (sym after)
          (claim_kept (tree.tree it) (tree.begins it) (tree.refutes it) (met.excludes it) p c.args.claim later holds
          before);
    }
