use Rattle.std.proofs.Common.{ap, sym, ◌∙◌}
use Rattle.std.specs.Prelude.{Some}
use Rattle.fux_judge.specs.Charges.{move_charge}
use Rattle.fux_judge.proofs.MoveLinks.{move_broken, move_of_cantus, move_whole}
use Rattle.fux_judge.proofs.moves.move_cost.Goals as goal

pub returns-then-not-is_free-clause-value : goal.returns-then-not-is_free-clause-value
returns-then-not-is_free-clause-value c =
    move_of_cantus c.args.ex.now c.args.sheet.now c.args.i c.args.v c.args.before c.args.next
    (sym c.if-not-is_free.ensures)

pub returns-then-breaks_one-clause-value : goal.returns-then-breaks_one-clause-value
returns-then-breaks_one-clause-value c =
    move_broken c.args.ex.now c.args.sheet.now c.args.i c.args.v c.args.before c.args.next c.if-breaks_one.ensures

pub returns-clause-value : goal.returns-clause-value
returns-clause-value c =
    ap Some (c.charge_of_move.ensures.value
    ∙ ap (λ previous. move_charge c.args.sheet.now previous c.args.next) c.pitch.ensures)
    ∙ move_whole c.args.ex.now c.args.sheet.now c.args.i c.args.v c.args.before c.args.next c.if-breaks_one.ensures
    (sym c.if-not-is_free.ensures)
