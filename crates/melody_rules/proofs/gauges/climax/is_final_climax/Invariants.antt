use Rattle.std.proofs.Common.{◌≡◌}
use Rattle.std.specs.Prelude.{pos}
use Rattle.melody_rules.specs.Gauges.{is_final_climax}
use Rattle.melody_rules.proofs.gauges.climax.is_final_climax.Given as goal

abbrev pub invariant-loop-j : goal.invariant-loop-j
invariant-loop-j l = is_final_climax l.ex l.v l.j (pos l.key) ≡ is_final_climax l.ex l.v l.fn.i (pos l.key)
