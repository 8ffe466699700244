use Rattle.std.proofs.Common.{List, ap, sym, ◌∙◌}
use Rattle.std.proofs.lemmas.Bool.{OnFalse_at, OnFalse_from}
use Rattle.fux_grid.specs.declared.cell.Cell.{Cell}
use Rattle.fux_grid.specs.Cells.{cell_in}
use Rattle.rule_law.specs.Terms.{starts}
use Rattle.fux_judge.proofs.FairLemmas.{still_fair}
use Rattle.fux_judge.proofs.pruning.breaks_untried.Goals as goal

pub returns-then-not-starts-clause-fair : goal.returns-then-not-starts-clause-fair
returns-then-not-starts-clause-fair c = λ le nothing p is.
    still_fair c.args.ex.now p c.args.col.now.items c.args.voice
    (ap (λ (d : List Cell). starts (cell_in d c.args.voice)) (sym c.as_slice-cells.ensures.value)
    ∙ sym (c.if-not-starts.ensures ∙ ap starts c.cell_of.ensures))

pub returns-clause-fair : goal.returns-clause-fair
returns-clause-fair c =
    OnFalse_from c.breaks_with.result _ (λ no le. OnFalse_at no c.breaks_with.ensures.fair)
