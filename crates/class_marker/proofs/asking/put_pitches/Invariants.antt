use Rattle.std.proofs.Common.{◌≡◌, ◌++◌, string_bytes, drop}
use Rattle.class_marker.specs.Asked.{pitches_text}
use Rattle.class_marker.proofs.asking.put_pitches.Given as goal

-- what is written so far, and what is left, are what is to be written
abbrev pub invariant-loop-pitch : goal.invariant-loop-pitch
invariant-loop-pitch l =
    string_bytes l.out ++ pitches_text (drop l.pitch-index l.pitches)
    ≡ string_bytes l.fn.out ++ pitches_text l.pitches
