use Rattle.std.specs.Prelude.{◌≡◌, ◌==◌, ◌||◌, nat_lt}
use Rattle.std.proofs.Common.{ap, rules, sym, ◌∙◌}
use Rattle.fux_pitch.specs.Size.{interval_between}
use Rattle.rule_law.specs.Terms.{degrees_without_sign}
use Rattle.melody_rules.proofs.MoveLemmas.{far_is_unmelodic}
use Rattle.melody_rules.proofs.moves.leads_to.Goals as goal

pub returns-then-goes_far : goal.returns-then-goes_far
returns-then-goes_far c =
    let way = interval_between c.args.p c.args.q in
    let size : c.unsigned_abs-degrees.result ≡ degrees_without_sign way = search rules in
    sym (far_is_unmelodic way (ap (λ n. (n == 6) || nat_lt 7 n) (sym size) ∙ sym c.goes_far.ensures ∙ c.if-goes_far.true))
