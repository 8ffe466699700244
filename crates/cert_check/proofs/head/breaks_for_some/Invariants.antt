use Rattle.std.proofs.Common.{◌≡◌, ◌&&◌, false, take}
use Rattle.std.specs.List.{list_any}
use Rattle.fux_judge.specs.Penalties.{is_strict_at}
use Rattle.fux_judge.specs.Rules.{is_broken}
use Rattle.cert_check.proofs.head.breaks_for_some.Given as goal

abbrev pub invariant-loop-bits : goal.invariant-loop-bits
invariant-loop-bits l = list_any (λ voices. is_broken l.rule l.ex voices l.score.columns l.i
    && is_strict_at l.rule l.ex voices l.i) (take l.bits-index l.bits-items) ≡ false
