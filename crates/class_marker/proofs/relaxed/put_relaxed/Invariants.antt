use Rattle.std.proofs.Common.{◌≡◌, ◌++◌, string_bytes, drop}
use Rattle.std.specs.List.{flat_map}
use Rattle.class_marker.specs.Asked.{relax_sentence}
use Rattle.class_marker.proofs.relaxed.put_relaxed.Given as goal

-- what is written so far, and what is left, are what is to be written
abbrev pub invariant-loop-line : goal.invariant-loop-line
invariant-loop-line l =
    string_bytes l.out ++ flat_map (relax_sentence l.voices) (drop l.line-index l.lines)
    ≡ string_bytes l.fn.out ++ flat_map (relax_sentence l.voices) l.lines
