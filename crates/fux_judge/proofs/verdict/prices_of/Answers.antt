use Rattle.std.proofs.Common.{◌≡◌, [], sym, ◌∙◌}
use Rattle.std.proofs.lemmas.Bool.{eqb-true}
use Rattle.std.proofs.lemmas.List.{nil_from_length}
use Rattle.rule_law.specs.Growth.{sum_by-none}
use Rattle.fux_judge.specs.Rules.{all_sets}
use Rattle.fux_judge.specs.Moments.{prices_then}
use Rattle.fux_judge.proofs.SetLemmas.{nothing_relaxed}
use Rattle.fux_judge.proofs.verdict.prices_of.Goals as goal

pub returns-then-is_empty-clause-value : goal.returns-then-is_empty-clause-value
returns-then-is_empty-clause-value c = λ p after.
    let none : c.args.m.now.exercise.now.relax ≡ [] =
    sym c.as_slice.ensures ∙ nil_from_length c.as_slice.result.now
    (eqb-true _ 0 (sym c.is_empty.ensures ∙ c.if-is_empty.true)) in
    sym (sum_by-none (λ rule. prices_then all_sets rule p c.args.m.now) c.args.rules.now
    (λ rule. sym (nothing_relaxed rule p c.args.m.now none)))
