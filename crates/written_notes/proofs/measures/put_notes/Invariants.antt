use Rattle.std.proofs.Common.{◌≡◌, ◌++◌, string_bytes, drop}
use Rattle.written_notes.specs.Measures.{note_rows}
use Rattle.written_notes.proofs.measures.put_notes.Given as goal

-- what is written so far, and what is left, are what is to be written
abbrev pub invariant-loop-note : goal.invariant-loop-note
invariant-loop-note l =
    string_bytes l.out ++ note_rows l.notes l.marks l.voice l.bar (drop l.note-index l.notes)
    ≡ string_bytes l.fn.out ++ note_rows l.notes l.marks l.voice l.bar l.notes
