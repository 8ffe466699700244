use Rattle.std.proofs.Common.{sym, ◌∙◌, arith}
use Rattle.fux_judge.specs.Neighbors.{breaks_strictly_at_link}
use Rattle.fux_judge.proofs.ToldFinds.{find_here, find_later, nothing_left}
use Rattle.fux_judge.proofs.link.first_of.Goals as goal

pub loop-rule-preserved : goal.loop-rule-preserved
loop-rule-preserved c =
    c.loop-rule.invariant
    ∙ find_later (breaks_strictly_at_link c.args.link.now) c.args.rules.now c.loop-rule.rule-index 0 (omega arith)
    (sym c.breaks_rule.ensures ∙ c.if-breaks_rule.false)

pub returns-then-breaks_rule : goal.returns-then-breaks_rule
returns-then-breaks_rule c =
    sym (c.loop-rule.invariant
    ∙ find_here (breaks_strictly_at_link c.args.link.now) c.args.rules.now c.loop-rule.rule-index 0 (omega arith)
    (sym c.breaks_rule.ensures ∙ c.if-breaks_rule.true))

pub returns : goal.returns
returns c =
    sym (c.loop-rule.invariant
    ∙ nothing_left (breaks_strictly_at_link c.args.link.now) c.args.rules.now c.loop-rule.rule-index (omega arith))
