use Rattle.std.proofs.Common.{◌≡◌, ap, length, reverse, sym, ◌∙◌}
use Rattle.cantus_space.specs.declared.plan.CantusPlan.{CantusPlan}
use Rattle.cantus_space.proofs.LawfulLemmas.{floor-whole}
use Rattle.cantus_space.proofs.lawful.lawful_penalty.Goals as goal

pub returns-clause-lawful : goal.returns-clause-lawful
returns-clause-lawful c =
    let plan = c.args.space.now in
    let cantus = c.args.cantus.now in
    let node = c.in_ok-node.ensures.live in
    let whole : length cantus ≡ plan.bars =
    c.if-cantus-plan.false ∙ ap (λ (p : CantusPlan). p.bars) c.plan.ensures.value in
    let floor = c.floor.ensures (reverse cantus) record {
      kept = node.kept;
      paid = node.paid;
      little = node.little;
      charged = node.charged;
      little_charged = node.little_charged;
    } in
    (record { live = node.live; whole = whole }, sym (floor-whole plan cantus whole) ∙ sym floor)
