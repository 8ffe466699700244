use Rattle.std.proofs.Common.{◌≡◌, ◌++◌, string_bytes, drop}
use Rattle.class_marker.specs.Evidence.{further_notes}
use Rattle.class_marker.proofs.lines.put_further.Given as goal

-- what is written so far, and what is left, are what is to be written
abbrev pub invariant-loop-note : goal.invariant-loop-note
invariant-loop-note l =
    string_bytes l.out ++ further_notes (drop l.note-index l.notes)
    ≡ string_bytes l.fn.out ++ further_notes l.notes
