use Rattle.std.proofs.Common.{◌≡◌, ◌++◌, string_bytes, drop}
use Rattle.score_picture.specs.NoteRows.{note_rows}
use Rattle.score_picture.proofs.notes.put_notes.Given as goal

-- what is written so far, and what is left, are what is to be written
abbrev pub invariant-loop-note : goal.invariant-loop-note
invariant-loop-note l =
    string_bytes l.out ++ note_rows l.marked.ex.now l.marked.marks.now l.bar.bar l.bar.place l.bar.tie_end l.bar.all.now
    l.staff l.notes (drop l.note-index l.notes)
    ≡ string_bytes l.fn.out ++ note_rows l.marked.ex.now l.marked.marks.now l.bar.bar l.bar.place l.bar.tie_end
    l.bar.all.now l.staff l.notes l.notes
