use Rattle.std.proofs.Common.{◌+◌, List, ap, sym, ◌∙◌, arith}
use Rattle.std.proofs.lemmas.Bool.{OnTrue_at}
use Rattle.fux_grid.specs.declared.cell.Cell.{Cell}
use Rattle.fux_grid.specs.Cells.{cell_in}
use Rattle.rule_law.proofs.LowerVoices.{same_below}
use Rattle.fux_judge.proofs.ShapeLemmas.{leaves_in_all}
use Rattle.fux_judge.proofs.pruning.leaves_shapes.Goals as goal

pub returns-then-leaves_last_shape : goal.returns-then-leaves_last_shape
returns-then-leaves_last_shape c = λ p is other same.
    let v = c.args.voice in
    leaves_in_all c.args.ex.now p other v c.requires.voice
    (OnTrue_at c.if-leaves_last_shape.true c.leaves_last_shape.ensures p other (sym is.newest.count) is.past.rhythm
    ((same_below (v + 1) other c.args.col.now.items same).cells v (omega arith)
    ∙ ap (λ (d : List Cell). cell_in d v) (sym c.as_slice-cells.ensures.value) ∙ sym c.cell_of-cell.ensures))
