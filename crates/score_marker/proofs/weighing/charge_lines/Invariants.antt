use Rattle.std.proofs.Common.{◌≡◌, ◌++◌}
use Rattle.std.specs.List.{filter, flat_map, range_with_len}
use Rattle.rule_law.specs.Voices.{is_free}
use Rattle.score_marker.specs.Charges.{charges_of_line}
use Rattle.score_marker.proofs.weighing.charge_lines.Given as goal

abbrev pub invariant-loop-v : goal.invariant-loop-v
invariant-loop-v l = l.charges.items ≡ l.fn.charges.items
    ++ flat_map (charges_of_line l.sheet l.score.columns) (filter (is_free l.ex) (range_with_len 0 l.v))
