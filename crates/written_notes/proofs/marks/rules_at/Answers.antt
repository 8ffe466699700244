use Rattle.std.proofs.Common.{arith, ap, ◌∙◌, ◌++◌, ◌∷◌, [], cond}
use Rattle.written_notes.specs.Marks.{rules_at, shows_rule}
use Rattle.written_notes.proofs.Steps.{kept-made}
use Rattle.written_notes.proofs.marks.rules_at.Goals as goal

pub loop-rule-preserved : goal.loop-rule-preserved
loop-rule-preserved c =
    let rule = c.loop-rule.rule in
    let rules = c.loop-rule.rules.items in record {
      few = omega (arith, c.put_rule.ensures.few, c.loop-rule.invariant.few);
      made = kept-made (shows_rule c.args.marks.now c.args.spot.now) rule 34 rules c.put_rule.new.rules.items
          (rules_at c.args.marks.now c.args.spot.now) c.loop-rule-test.true
          (c.put_rule.ensures.items ∙ ap (λ b. rules ++ cond b (rule ∷ []) []) c.shows_rule-shown.ensures)
          c.loop-rule.invariant.made;
    }
