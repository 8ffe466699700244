use Rattle.std.proofs.Common.{◌≡◌, ◌++◌, string_bytes, drop}
use Rattle.std.specs.List.{flat_map}
use Rattle.class_marker.specs.Asked.{range_sentence}
use Rattle.class_marker.proofs.asking.put_ranges.Given as goal

-- what is written so far, and what is left, are what is to be written
abbrev pub invariant-loop-line : goal.invariant-loop-line
invariant-loop-line l =
    string_bytes l.out ++ flat_map (range_sentence l.voices) (drop l.line-index l.lines)
    ≡ string_bytes l.fn.out ++ flat_map (range_sentence l.voices) l.lines
