use Rattle.std.proofs.Common.{ℕ, ap, sym, ◌∙◌, arith}
use Rattle.std.specs.Prelude.{if◌then◌else◌}
use Rattle.std.specs.List.{sum_by}
use Rattle.std.proofs.lemmas.List.{take_all}
use Rattle.rule_law.specs.Forms.{sets_of}
use Rattle.fux_judge.proofs.Facts.{rule_keeps}
use Rattle.fux_judge.specs.Penalties.{price_at_place}
use Rattle.fux_judge.specs.Rules.{is_broken}
use Rattle.fux_judge.proofs.total.prices_of_rule.Goals as goal

pub returns-clause-value : goal.returns-clause-value
returns-clause-value c =
    let ex = c.args.ex.now in
    let price : ℕ → ℕ = λ voices. if is_broken c.args.rule ex voices c.args.score.now.columns c.args.i
    then price_at_place c.args.rule ex voices c.args.i else 0 in
    let sets = c.sets_of-bits-items.result.now in
    c.loop-bits.invariant.value ∙ ap (sum_by price)
    (take_all c.loop-bits.bits-index sets (omega (arith, c.loop-bits-test.false)))
    ∙ ap (sum_by price) (c.sets_of-bits-items.ensures.value ∙ ap (λ form. sets_of form ex.voices) c.form_of.ensures)
    ∙ sym (((rule_keeps c.args.rule).form ex c.args.i _ _ _).sum
    (λ voices. price_at_place c.args.rule ex voices c.args.i))
