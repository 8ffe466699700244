use Rattle.std.proofs.Common.{ap, sym, ◌∙◌}
use Rattle.rule_law.specs.Places.{reading_of}
use Rattle.melody_rules.specs.Rows.{cost_in}
use Rattle.melody_rules.proofs.book.MelodyRuleCrate.cost_in.Goals as goal

pub returns-then-toll-eq13 : goal.returns-then-toll-eq13
returns-then-toll-eq13 c =
    c.open_leaps_in_score.ensures
    ∙ ap (λ toll. reading_of (cost_in toll c.args.ex.now) c.args.score.now.columns c.args.i) (sym c.if-toll-eq13.true)
