use Rattle.std.proofs.Common.{List, ap, ◌∙◌}
use Rattle.std.specs.List.{sum_by}
use Rattle.fux_grid.specs.declared.cell.Cell.{Cell}
use Rattle.fux_grid.specs.declared.exercise.Exercise.{Exercise}
use Rattle.fux_judge.specs.Charges.{tolls_of_pairs}
use Rattle.fux_judge.specs.Steps.{toll_at_end}
use Rattle.fux_judge.proofs.pruning.charge_together.Goals as goal

pub returns-clause-value : goal.returns-clause-value
returns-clause-value c = λ p is.
    let of = c.moment_of-moment.ensures in
    let column : List Cell = c.moment_of-moment.result.column.now in
    c.charges_of_pairs.ensures.value p (of.after p is)
    ∙ ap (λ (e : Exercise). sum_by (toll_at_end e c.args.sheet.now p column) tolls_of_pairs) of.exercise
    ∙ ap (λ (d : List Cell). sum_by (toll_at_end c.args.ex.now c.args.sheet.now p d) tolls_of_pairs) of.column
