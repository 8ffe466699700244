use Rattle.std.proofs.Common.{◌+◌, List, take, drop, ap, sym, ◌∙◌, arith}
use Rattle.std.proofs.lemmas.List.{length-take-le}
use Rattle.fux_grid.specs.declared.cell.Cell.{Cell}
use Rattle.fux_grid.specs.Columns.{earlier}
use Rattle.fux_judge.specs.Rules.{breaks, rule_at}
use Rattle.fux_judge.proofs.StateLemmas.{parts_of}
use Rattle.fux_judge.proofs.past.Past.breaks.Goals as goal

pub returns : goal.returns
unfolding rule_at earlier
returns c =
    let s = c.args.score.now.columns in
    let i = c.args.i in
    let ahead = drop (i + 1) s in
    c.breaks_at_once.ensures (sym c.is_late.ensures ∙ c.if-is_late.false) (take i s) ahead
    (length-take-le i s (omega (arith, c.requires.place))) (parts_of c.requires.past) c.before-behind.ensures c.requires.latest
    ∙ ap (λ (now : List Cell). breaks c.args.rule c.args.ex.now c.args.voices.bits i (earlier s i) now ahead)
    (c.as_slice.ensures.value ∙ c.column.ensures.value)

pub returns-then-is_late : goal.returns-then-is_late
unfolding rule_at
returns-then-is_late c = c.broken_in.ensures
