use Rattle.std.proofs.Common.{◌++◌, string_bytes, codes}
use Rattle.std.specs.Fmt.{decimal}
use Rattle.score_picture.proofs.Pushed.{pushed}
use Rattle.score_picture.specs.NoteRows.{note_rows, notes_group}
use Rattle.score_picture.proofs.notes.put_notes_group.Goals as goal

pub returns : goal.returns
unfolding notes_group
returns c =
    let start = string_bytes c.args.out.now in
    let marked = c.args.marked.now in
    let bar = c.args.bar.now in
    let staff = c.args.staff.now in
    let notes = c.args.notes.now in
    let t1 = codes "<g transform=\"translate(0," ++ decimal staff.y ++ codes ") translate(0,-600)\">\n" in
    let t2 = t1 ++ note_rows marked.ex.now marked.marks.now bar.bar bar.place bar.tie_end bar.all.now staff notes notes in
    pushed start t2 (codes "</g>\n")
    (pushed start t1 (note_rows marked.ex.now marked.marks.now bar.bar bar.place bar.tie_end bar.all.now staff notes notes)
    c.in_ok-write.ensures.bytes c.in_ok-put_notes.ensures)
    c.in_ok-push_str.ensures.bytes
