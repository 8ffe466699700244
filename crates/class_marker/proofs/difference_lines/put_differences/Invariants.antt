use Rattle.std.proofs.Common.{◌≡◌, ◌++◌, string_bytes, drop}
use Rattle.class_marker.specs.DifferenceLines.{difference_lines}
use Rattle.class_marker.proofs.difference_lines.put_differences.Given as goal

-- what is written so far, and what is left, are what is to be written
abbrev pub invariant-loop-difference : goal.invariant-loop-difference
invariant-loop-difference l =
    string_bytes l.out ++ difference_lines (drop l.difference-index l.differences)
    ≡ string_bytes l.fn.out ++ difference_lines l.differences
