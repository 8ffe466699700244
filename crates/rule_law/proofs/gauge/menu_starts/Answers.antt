use Rattle.rule_law.proofs.MenuStarts.{menu_starts-from, menu_starts-only, same_truth}
use Rattle.rule_law.specs.Gauges.{menu_starts}
use Rattle.rule_law.proofs.gauge.menu_starts.Goals as goal

pub returns : goal.returns
returns c =
    same_truth c.can_start.result (menu_starts c.args.ex.now c.args.v c.args.i)
    (λ e. menu_starts-from c.args.ex.now c.args.v c.args.i (c.can_start.ensures.0 e))
    (λ e. c.can_start.ensures.1 (menu_starts-only c.args.ex.now c.args.v c.args.i e))
