use Rattle.std.proofs.Common.{sym, ◌∙◌}
use Rattle.std.proofs.lemmas.Bool.{eqb-true}
use Rattle.std.proofs.lemmas.List.{nil_from_length}
use Rattle.fux_judge.proofs.LateLemmas.{no_late_prices}
use Rattle.fux_judge.proofs.late.late_prices.Goals as goal

pub returns-then-is_empty-clause-value : goal.returns-then-is_empty-clause-value
returns-then-is_empty-clause-value c = λ p col come.
    no_late_prices c.args.ex.now p col
    (sym c.as_slice.ensures ∙ nil_from_length c.as_slice.result.now
    (eqb-true _ 0 (sym c.is_empty.ensures ∙ c.if-is_empty.true)))
