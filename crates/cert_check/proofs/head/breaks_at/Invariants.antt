use Rattle.std.proofs.Common.{◌≡◌, ◌&&◌, false, take}
use Rattle.std.specs.List.{list_any}
use Rattle.fux_judge.specs.Penalties.{is_strict_at}
use Rattle.fux_judge.specs.Rules.{all_sets, is_broken}
use Rattle.cert_check.proofs.head.breaks_at.Given as goal

abbrev pub invariant-loop-rule : goal.invariant-loop-rule
invariant-loop-rule l = list_any (λ rule. list_any
    (λ voices. is_broken rule l.ex voices l.score.columns l.i && is_strict_at rule l.ex voices l.i) all_sets)
    (take l.rule-index l.rule-items) ≡ false
