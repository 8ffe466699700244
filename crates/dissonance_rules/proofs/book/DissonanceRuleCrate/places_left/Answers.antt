use Rattle.std.proofs.Common.{sym, subst}
use Rattle.rule_law.specs.RuleCrates.{SettlesNoOther}
use Rattle.rule_law.specs.Rulebooks.{RuleRow}
use Rattle.dissonance_rules.proofs.LateReadings.{row_is}
use Rattle.dissonance_rules.specs.Starts.{AreStartsOf}
use Rattle.dissonance_rules.proofs.book.DissonanceRuleCrate.places_left.Goals as goal

pub returns-then-not-is_told_later-clause-left : goal.returns-then-not-is_told_later-clause-left
returns-then-not-is_told_later-clause-left c = λ late.
    let P : RuleRow → Type 0 = λ it. SettlesNoOther (AreStartsOf c.args.ex.now) it c.args.ex.now c.args.part.now
    c.args.newest.now c.held_left.result.first c.held_left.result.count in
    subst P (sym (row_is c.args.rule late)) (λ p col part. c.held_left.ensures.left p col)

pub returns-clause-left : goal.returns-clause-left
returns-clause-left c = λ late.
    let P : RuleRow → Type 0 = λ it. SettlesNoOther (AreStartsOf c.args.ex.now) it c.args.ex.now c.args.part.now
    c.args.newest.now c.passing_left.result.first c.passing_left.result.count in
    subst P (sym (row_is c.args.rule late)) c.passing_left.ensures.left
