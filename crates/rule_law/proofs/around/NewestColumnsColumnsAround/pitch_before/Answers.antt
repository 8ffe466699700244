use Rattle.std.specs.Prelude.{◌<◌, List, length}
use Rattle.std.proofs.Common.{ap, sym, ◌∙◌, arith}
use Rattle.fux_grid.specs.declared.cell.Cell.{Cell}
use Rattle.fux_grid.specs.Cells.{cell_in, pitch_of}
use Rattle.fux_grid.specs.Columns.{earlier}
use Rattle.fux_grid.proofs.Histories.{get_or-earlier_past}
use Rattle.rule_law.proofs.AroundLemmas.{newest-earlier, newest-first}
use Rattle.rule_law.proofs.around.NewestColumnsColumnsAround.pitch_before.Goals as goal

pub returns-then-i-eq0 : goal.returns-then-i-eq0
returns-then-i-eq0 c = λ s first shown from free.
    let there : c.args.i < length s = omega (arith, c.requires.place, shown.newest.count) in
    sym (shown.previous c.args.v c.args.i free there
    ∙ ap (λ (col : List Cell). pitch_of (cell_in col c.args.v))
    (newest-first (earlier s c.args.i)
    ∙ get_or-earlier_past s c.args.i 0 (omega (arith, c.if-i-eq0.true)) (omega (arith, there))))

pub returns : goal.returns
returns c = λ s first shown from free.
    let there : c.args.i < length s = omega (arith, c.requires.place, shown.newest.count) in
    c.pitch.ensures
    ∙ ap pitch_of (c.cell_of.ensures
    ∙ ap (λ (col : List Cell). cell_in col c.args.v)
    (c.at.ensures s shown.newest (omega (arith, shown.near, from, c.if-i-eq0.false))
    ∙ sym (newest-earlier s c.args.i (omega (arith, c.if-i-eq0.false)) (omega (arith, there)))))
    ∙ sym (shown.previous c.args.v c.args.i free there)
