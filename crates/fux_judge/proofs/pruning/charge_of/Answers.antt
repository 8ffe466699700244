use Rattle.std.proofs.Common.{List, ap, ◌∙◌}
use Rattle.fux_grid.specs.declared.cell.Cell.{Cell}
use Rattle.fux_grid.specs.declared.exercise.Exercise.{Exercise}
use Rattle.fux_judge.specs.Charges.{voice_charge}
use Rattle.fux_judge.proofs.pruning.charge_of.Goals as goal

pub returns-clause-value : goal.returns-clause-value
returns-clause-value c = λ p is.
    let of = c.moment_of-moment.ensures in
    let column : List Cell = c.moment_of-moment.result.column.now in
    c.charge_of_voice.ensures.value p (of.after p is)
    ∙ ap (λ (e : Exercise). voice_charge e c.args.sheet.now p column c.args.voice) of.exercise
    ∙ ap (λ (d : List Cell). voice_charge c.args.ex.now c.args.sheet.now p d c.args.voice) of.column
