use Rattle.std.proofs.Common.{◌++◌, string_bytes, codes, ap, ◌∙◌, ◌+◌, ◌==◌}
use Rattle.std.specs.Fmt.{decimal}
use Rattle.written_notes.specs.Sheets.{sheet_notes}
use Rattle.written_notes.specs.NoteRows.{if_shown}
use Rattle.written_notes.proofs.Pushed.{pushed, said}
use Rattle.written_notes.specs.Measures.{end_line, first_attributes, note_rows, measure}
use Rattle.written_notes.proofs.measures.put_measure.Goals as goal

pub returns : goal.returns
unfolding measure
returns c =
    let start = string_bytes c.args.out.now in
    let t1 = codes "<measure number=\"" ++ decimal (c.args.bar + 1) ++ codes "\">\n" in
    let t2 = t1 ++ first_attributes c.args.ex.now c.args.voice c.args.bar in
    let t3 = t2 ++ note_rows (sheet_notes c.args.ex.now c.args.voice c.args.line.now c.args.bar) c.args.marks.now c.args.voice (c.args.bar + 1) (sheet_notes c.args.ex.now c.args.voice c.args.line.now c.args.bar) in
    let t4 = t3 ++ if_shown (c.args.bar + 1 == c.args.ex.now.bars) end_line in
    pushed start t4 (codes "</measure>\n")
    (pushed start t3 (if_shown (c.args.bar + 1 == c.args.ex.now.bars) end_line)
    (pushed start t2 (note_rows (sheet_notes c.args.ex.now c.args.voice c.args.line.now c.args.bar) c.args.marks.now c.args.voice (c.args.bar + 1) (sheet_notes c.args.ex.now c.args.voice c.args.line.now c.args.bar))
    (pushed start t1 (first_attributes c.args.ex.now c.args.voice c.args.bar)
    c.in_ok-write.ensures.bytes c.in_ok-put_first_attributes.ensures) (said (string_bytes c.put_first_attributes.new.out) c.in_ok-put_notes.ensures (ap (λ notes. note_rows notes c.args.marks.now c.args.voice (c.args.bar + 1) notes) (c.deref.ensures.0 ∙ c.sheet_notes-notes.ensures)))) c.in_ok-put_if.ensures) c.in_ok-push_str.ensures.bytes
