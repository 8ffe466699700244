use Rattle.std.proofs.Common.{◌≡◌, suc, ap, sym, ◌∙◌, arith}
use Rattle.std.specs.Prelude.{if◌then◌else◌}
use Rattle.cantus_space.proofs.NodeLemmas.{few_moves, moves_by}
use Rattle.cantus_space.proofs.node.CantusNode.moves_with.Goals as goal

pub returns-then-goes_on : goal.returns-then-goes_on
returns-then-goes_on c = λ behind kept.
    let node = c.args.self.now in
    let more : c.saturating_add.result ≡ suc node.moves = omega
    (arith, c.saturating_add.ensures, few_moves behind node kept, c.requires) in
    more ∙ sym (ap (λ b. if b then suc node.moves else 1) c.if-goes_on.true)
    ∙ moves_by behind node kept c.args.pitch c.goes_on.result c.goes_on.ensures

pub returns-else-goes_on : goal.returns-else-goes_on
returns-else-goes_on c = λ behind kept.
    let node = c.args.self.now in
    sym (ap (λ b. if b then suc node.moves else 1) c.if-goes_on.false)
    ∙ moves_by behind node kept c.args.pitch c.goes_on.result c.goes_on.ensures
