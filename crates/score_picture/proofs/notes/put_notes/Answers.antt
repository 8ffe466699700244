use Rattle.std.proofs.Common.{◌+◌, ◌++◌, ap, sym, ◌∙◌, drop, string_bytes, arith}
use Rattle.std.proofs.lemmas.List.{at_drop_more}
use Rattle.written_notes.proofs.Steps.{moved}
use Rattle.score_picture.specs.NoteRows.{note_rows, written_rows}
use Rattle.score_picture.proofs.notes.put_notes.Goals as goal

pub loop-note-preserved : goal.loop-note-preserved
loop-note-preserved c =
    let ex = c.args.marked.now.ex.now in
    let marks = c.args.marked.now.marks.now in
    let bar = c.args.bar.now in
    let all = bar.all.now in
    let staff = c.args.staff.now in
    let notes = c.args.notes.now in
    let i = c.loop-note.note-index in
    let note = c.note-item.result in
    let before = string_bytes c.loop-note.out in
    let row = written_rows ex marks bar.bar bar.place bar.tie_end all staff notes in
    let rest = note_rows ex marks bar.bar bar.place bar.tie_end all staff notes (drop (i + 1) notes) in
    let whole = string_bytes c.args.out.now
    ++ note_rows ex marks bar.bar bar.place bar.tie_end all staff notes notes in
    moved before (string_bytes c.put_written.new.out) (row note) rest whole c.in_ok-put_written.ensures
    (ap (λ t. before ++ t)
    (ap (λ other. row other ++ rest) c.note-item.is
    ∙ sym (at_drop_more (note_rows ex marks bar.bar bar.place bar.tie_end all staff notes) notes i note (omega arith)))
    ∙ c.loop-note.invariant)
