use Rattle.std.proofs.Common.{sym, ◌∙◌}
use Rattle.std.specs.Prelude.{Some, None}
use Rattle.fux_judge.specs.Links.{given}
use Rattle.fux_judge.proofs.LinkLemmas.{link_from_parts}
use Rattle.priced_floors.proofs.pricing.cost_between.Goals as goal

pub returns-in_err-pair-clause-value : goal.returns-in_err-pair-clause-value
returns-in_err-pair-clause-value c =
    c.from_residual-in_err-pair.ensures
    ∙ link_from_parts c.args.ex.now c.args.i (given c.args.prev) c.args.next.now.items c.args.sheet.now
    (Some c.in_ok-own.own) None
    (sym (c.in_ok-own.was) ∙ c.column_cost.ensures.value) (sym (c.in_err-pair.was) ∙ c.pair_cost.ensures.value)

pub returns-clause-value : goal.returns-clause-value
returns-clause-value c =
    link_from_parts c.args.ex.now c.args.i (given c.args.prev) c.args.next.now.items c.args.sheet.now
    (Some c.in_ok-own.own) (Some c.in_ok-pair.pair)
    (sym (c.in_ok-own.was) ∙ c.column_cost.ensures.value) (sym (c.in_ok-pair.was) ∙ c.pair_cost.ensures.value)
