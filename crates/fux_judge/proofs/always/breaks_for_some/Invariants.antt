use Rattle.std.proofs.Common.{◌≡◌, ◌&&◌, None, false, take}
use Rattle.std.specs.List.{list_any}
use Rattle.fux_judge.specs.Links.{breaks_between}
use Rattle.fux_judge.specs.Penalties.{is_strict_at}
use Rattle.fux_judge.proofs.always.breaks_for_some.Given as goal

abbrev pub invariant-loop-bits : goal.invariant-loop-bits
invariant-loop-bits l =
    list_any (λ voices. breaks_between l.ex l.i None l.now l.rule voices && is_strict_at l.rule l.ex voices l.i)
    (take l.bits-index l.sets) ≡ false
