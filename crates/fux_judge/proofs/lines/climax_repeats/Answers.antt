use Rattle.std.proofs.Common.{ap, sym, ◌∙◌}
use Rattle.std.specs.Prelude.{◌-◌, if◌then◌else◌}
use Rattle.melody_rules.proofs.GaugeLemmas.{least_kept}
use Rattle.fux_judge.proofs.lines.climax_repeats.Goals as goal

pub returns-then-not-is_final : goal.returns-then-not-is_final
returns-then-not-is_final c = λ cells long kept ahead.
    sym (least_kept c.args.ex.now c.args.v c.args.i cells c.args.kept.now.climax long kept.climax
    ∙ ap (λ b. if b then c.args.kept.now.climax.count - 1 else 0)
    (sym (c.is_final.ensures ahead) ∙ c.if-not-is_final.true))

pub returns : goal.returns
returns c = λ cells long kept ahead.
    sym (least_kept c.args.ex.now c.args.v c.args.i cells c.args.kept.now.climax long kept.climax
    ∙ ap (λ b. if b then c.args.kept.now.climax.count - 1 else 0)
    (sym (c.is_final.ensures ahead) ∙ c.if-not-is_final.false))
