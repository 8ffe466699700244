use Rattle.std.proofs.Common.{◌∷◌, reverse, ap, sym, ◌∙◌, subst}
use Rattle.std.specs.List.{AllByRecursion, flat_map}
use Rattle.cert_tree.specs.Trees.{AreTrueFrom}
use Rattle.cert_tree.specs.Walks.{node_at, owed_later}
use Rattle.cert_tree.specs.Writing.{claims_at, steps_left}
use Rattle.cert_tree.proofs.NextClaims.{claims_step, told_step}
use Rattle.cert_tree.proofs.writing.next_claim.Goals as goal

pub returns-clause-told : goal.returns-clause-told
returns-clause-told g c =
    let it = c.args.it.now in
    let tree = g.T.ClaimTree in
    let ways = tree.ways it in
    let levels = reverse c.own_next.new.walk.levels.items in
    let p = node_at ways levels in
    let told = subst (λ ps. AllByRecursion (λ q. AreTrueFrom (tree.tree it) (tree.own it) (steps_left ways q) q) ps)
    (sym c.in_ok-claim.ensures.owed ∙ c.in_ok-claim.ensures.owes) c.requires.told in
    subst (λ ps. AllByRecursion (λ q. AreTrueFrom (tree.tree it) (tree.own it) (steps_left ways q) q) ps)
    (sym c.go_on.ensures.owed)
    (told_step (tree.tree it) (tree.own it) (tree.root it) ways (g.met.T.ClaimTree.are_ways it) p
    c.in_ok-claim.claim c.is_open.result (owed_later ways levels) c.in_ok-claim.ensures.own
    c.is_open.ensures told.0 told.1)

pub returns-clause-claims : goal.returns-clause-claims
returns-clause-claims g c =
    let it = c.args.it.now in
    let tree = g.T.ClaimTree in
    let ways = tree.ways it in
    let levels = reverse c.own_next.new.walk.levels.items in
    let p = node_at ways levels in
    let owes = sym c.in_ok-claim.ensures.owed ∙ c.in_ok-claim.ensures.owes in
    let told = subst (λ ps. AllByRecursion (λ q. AreTrueFrom (tree.tree it) (tree.own it) (steps_left ways q) q) ps)
    owes c.requires.told in
    ap (flat_map (claims_at (tree.tree it) (tree.own it) ways)) owes
    ∙ claims_step (tree.tree it) (tree.own it) (tree.root it) ways (g.met.T.ClaimTree.are_ways it) p
    c.in_ok-claim.claim c.is_open.result (owed_later ways levels) c.in_ok-claim.ensures.own
    c.is_open.ensures told.0
    ∙ ap (λ owed. c.in_ok-claim.claim ∷ flat_map (claims_at (tree.tree it) (tree.own it) ways) owed)
    (sym c.go_on.ensures.owed)
