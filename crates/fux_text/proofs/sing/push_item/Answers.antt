use Rattle.std.proofs.Common.{[], ◌∷◌, ◌++◌, ap, ◌∙◌, arith}
use Rattle.fux_grid.specs.Cells.{held}
use Rattle.fux_text.proofs.ItemRuns.{run-longer}
use Rattle.fux_text.proofs.sing.push_item.Goals as goal

pub loop-preserved : goal.loop-preserved
loop-preserved c =
    c.in_ok-push-2.ensures.items
    ∙ ap (λ cell. c.loop.cells.items ++ cell ∷ []) c.held.ensures
    ∙ ap (λ cells. cells ++ held c.args.first ∷ []) c.loop.invariant
    ∙ run-longer c.args.cells.now.items c.args.first (held c.args.first) c.loop.counter (omega arith)
