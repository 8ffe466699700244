use Rattle.std.specs.Prelude.{◌+◌, List, drop}
use Rattle.std.proofs.Common.{ap, ◌∙◌, arith}
use Rattle.std.proofs.lemmas.List.{take_all}
use Rattle.fux_grid.specs.declared.cell.Cell.{Cell}
use Rattle.rule_law.specs.After.{next_onset}
use Rattle.rule_law.proofs.after.next_onset.Goals as goal

pub returns : goal.returns
returns g c = λ s first shown from.
    let size = g.met.C.ColumnsAround.counted c.args.around.now c.args.ex.now s first shown in
    c.note_within.ensures.value s first shown (omega (arith, from))
    ∙ ap (λ (cols : List (List Cell)). next_onset c.args.i c.args.v (drop (c.args.i + 1) cols))
    (take_all c.count-end.result s (omega (arith, c.count-end.ensures, size)))
