use Rattle.std.proofs.Common.{ap, ◌∙◌, string_bytes}
use Rattle.score_picture.proofs.Pushed.{pushed, said}
use Rattle.written_notes.specs.Sheets.{sheet_notes}
use Rattle.sheet_layout.specs.Spacing.{voice_notes}
use Rattle.score_picture.specs.NoteRows.{note_rows, notes_group}
use Rattle.score_picture.specs.StaffRows.{staff_rows}
use Rattle.score_picture.proofs.bars.put_staff.Goals as goal

pub returns : goal.returns
returns c =
    let ex = c.args.marked.now.ex.now in
    let marks = c.args.marked.now.marks.now in
    let lines = c.args.lines.now in
    let bar = c.args.bar.now in
    let staff = c.args.staff.now in
    let own = voice_notes ex lines bar.bar staff.voice in
    pushed (string_bytes c.args.out.now) (staff_rows ex bar.bar bar.place staff) _ c.in_ok-put_staff_rows.ensures
    (said (string_bytes c.put_staff_rows.new.out) c.in_ok-put_notes_group.ensures
    (ap (λ notes. notes_group staff.y
    (note_rows ex marks bar.bar bar.place bar.tie_end bar.all.now staff notes notes))
    (c.deref.ensures.0 ∙ c.sheet_notes-notes.ensures ∙ ap (λ line. sheet_notes ex staff.voice line bar.bar) c.line_at.ensures)
    ∙ ap (λ all. notes_group staff.y (note_rows ex marks bar.bar bar.place bar.tie_end all staff own own))
    c.requires.notes))
