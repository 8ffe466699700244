use Rattle.std.proofs.Common.{◌≡◌, sym, ◌∙◌}
use Rattle.std.proofs.lemmas.Bool.{eqb-true}
use Rattle.fux_judge.specs.Rules.{rule_at}
use Rattle.fux_judge.proofs.LateLemmas.{none_idle, one_more}
use Rattle.fux_judge.proofs.late.without_place.Goals as goal

pub loop-rule-init : goal.loop-rule-init
loop-rule-init c = none_idle c.args.ex.now c.args.i

pub loop-rule-preserved : goal.loop-rule-preserved
loop-rule-preserved c =
    one_more (λ r. (rule_at r).count c.args.ex.now c.args.i ≡ 0) c.loop-rule.idle.bits _ _ _ c.loop-rule.invariant
    (λ on. sym c.places_at-places.ensures.count ∙ eqb-true _ 0 on) c.with-idle.ensures
