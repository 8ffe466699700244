use Rattle.std.proofs.Common.{List, reverse, ap, sym, ◌∙◌}
use Rattle.fux_grid.specs.declared.cell.Cell.{Cell}
use Rattle.fux_grid.specs.Cells.{cell_in}
use Rattle.fux_grid.specs.Columns.{newest_column}
use Rattle.rule_law.specs.Pairs.{sound_perfect}
use Rattle.rule_law.specs.Terms.{starts}
use Rattle.fux_judge.proofs.FairLemmas.{imperfect, lower_still}
use Rattle.fux_judge.proofs.pruning.breaks_together.Goals as goal

pub returns-then-not-starts-clause-fair : goal.returns-then-not-starts-clause-fair
returns-then-not-starts-clause-fair c = λ nothing p is.
    lower_still c.args.ex.now (newest_column (reverse p)) c.args.col.now.items c.args.lower c.args.upper
    (ap (λ (d : List Cell). starts (cell_in d c.args.lower)) (sym c.as_slice-cells.ensures.value)
    ∙ sym (c.if-not-starts.ensures ∙ ap starts c.cell_of.ensures))

pub returns-then-not-sound_perfect-clause-fair : goal.returns-then-not-sound_perfect-clause-fair
returns-then-not-sound_perfect-clause-fair c = λ nothing p is.
    imperfect c.args.ex.now (newest_column (reverse p)) c.args.col.now.items c.args.lower c.args.upper
    (ap (λ (d : List Cell). sound_perfect d c.args.lower c.args.upper) (sym c.as_slice-cells.ensures.value)
    ∙ sym c.if-not-sound_perfect.ensures)
