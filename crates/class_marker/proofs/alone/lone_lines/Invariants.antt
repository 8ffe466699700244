use Rattle.std.proofs.Common.{◌≡◌}
use Rattle.std.specs.Prelude.{map}
use Rattle.std.specs.List.{range_with_len}
use Rattle.class_marker.specs.Alone.{lone_line}
use Rattle.class_marker.proofs.alone.lone_lines.Given as goal

-- the lines of the voices so far
abbrev pub invariant-loop-v : goal.invariant-loop-v
invariant-loop-v l = l.lines.items ≡ map (lone_line l.ex) (range_with_len 0 l.v)
