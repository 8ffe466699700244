use Rattle.std.proofs.Common.{ℕ, Bool, sym, ◌∙◌, arith}
use Rattle.fux_judge.specs.Moments.{is_strict_break_then}
use Rattle.fux_judge.proofs.SumLemmas.{rule_in_range}
use Rattle.fux_judge.proofs.ToldFinds.{find_here, find_later, nothing_left}
use Rattle.fux_judge.proofs.told.first_for.Goals as goal

pub is_strictly_broken-requires-clause-rule : goal.is_strictly_broken-requires-clause-rule
is_strictly_broken-requires-clause-rule c =
    (rule_in_range c.args.rules.now c.loop-rule.rule-index c.requires.numbers (omega arith)).1

pub loop-rule-preserved : goal.loop-rule-preserved
loop-rule-preserved c = λ p after.
    let test : ℕ → Bool = λ rule. is_strict_break_then rule c.args.voices.bits p c.args.m.now in
    c.loop-rule.invariant p after
    ∙ find_later test c.args.rules.now c.loop-rule.rule-index 0 (omega arith)
    (sym (c.is_strictly_broken.ensures p after) ∙ c.if-is_strictly_broken.false)

pub returns-then-is_strictly_broken : goal.returns-then-is_strictly_broken
returns-then-is_strictly_broken c = λ p after.
    let test : ℕ → Bool = λ rule. is_strict_break_then rule c.args.voices.bits p c.args.m.now in
    sym (c.loop-rule.invariant p after
    ∙ find_here test c.args.rules.now c.loop-rule.rule-index 0 (omega arith)
    (sym (c.is_strictly_broken.ensures p after) ∙ c.if-is_strictly_broken.true))

pub returns : goal.returns
returns c = λ p after.
    let test : ℕ → Bool = λ rule. is_strict_break_then rule c.args.voices.bits p c.args.m.now in
    sym (c.loop-rule.invariant p after ∙ nothing_left test c.args.rules.now c.loop-rule.rule-index (omega arith))
