use Rattle.std.proofs.Common.{ap, ◌∙◌}
use Rattle.cantus_space.specs.Melody.{charge_by, moves_one_way}
use Rattle.std.specs.Prelude.{◌∷◌}
use Rattle.melody_rules.specs.Rows.{before_last}
use Rattle.cantus_space.proofs.NodeLemmas.{newest, one_before}
use Rattle.cantus_space.proofs.node.CantusNode.charge.Goals as goal

pub returns-clause-value : goal.returns-clause-value
returns-clause-value c = λ behind kept.
    let node = c.args.self.now in
    let prices = c.args.prices.now in
    let p = c.args.pitch in
    c.note_charge.ensures.value
    ∙ ap (λ n. charge_by prices n node.notes.before node.notes.last p) (c.moves_with.ensures behind kept)
    ∙ ap (λ o. charge_by prices (moves_one_way (p ∷ behind)) o node.notes.last p) (one_before behind node kept)
    ∙ ap (λ o. charge_by prices (moves_one_way (p ∷ behind)) (before_last behind) o p) (newest behind node kept)
