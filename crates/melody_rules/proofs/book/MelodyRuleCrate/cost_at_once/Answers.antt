use Rattle.std.proofs.Common.{reverse, ap, sym, ◌∙◌}
use Rattle.melody_rules.specs.Rows.{cost_in}
use Rattle.melody_rules.proofs.book.MelodyRuleCrate.cost_at_once.Goals as goal

pub returns-then-toll-eq13-clause-value : goal.returns-then-toll-eq13-clause-value
returns-then-toll-eq13-clause-value c = λ soon p ahead long are before latest.
    c.open_leaps.ensures.value c.args.i (reverse p) ahead are
    ∙ ap (λ toll. cost_in toll c.args.ex.now c.args.i (reverse p) c.args.now.now ahead) (sym c.if-toll-eq13.true)
