use Rattle.std.proofs.Common.{◌++◌, string_bytes, codes, ap, ◌∙◌}
use Rattle.written_notes.specs.Beams.{beam_of}
use Rattle.written_notes.specs.Marks.{is_red}
use Rattle.written_notes.proofs.Pushed.{pushed, said}
use Rattle.written_notes.specs.NoteRows.{beam_element, duration_element, if_shown, notations, sign_element, sounding, tie_elements, type_element, note_row}
use Rattle.written_notes.proofs.note_rows.put_note.Goals as goal

pub returns : goal.returns
unfolding note_row
returns c =
    let start = string_bytes c.args.out.now in
    let t1 = codes "<note" in
    let t2 = t1 ++ if_shown (is_red c.args.marks.now c.args.spot.now) (codes " color=\"#C00000\"") in
    let t3 = t2 ++ codes ">" in
    let t4 = t3 ++ sounding c.args.spot.now.note in
    let t5 = t4 ++ duration_element c.args.spot.now.note.slots in
    let t6 = t5 ++ tie_elements c.args.spot.now.note in
    let t7 = t6 ++ codes "<voice>1</voice>" in
    let t8 = t7 ++ type_element c.args.spot.now.note in
    let t9 = t8 ++ sign_element c.args.spot.now.note.sign in
    let t10 = t9 ++ if_shown (is_red c.args.marks.now c.args.spot.now) (codes "<notehead color=\"#C00000\">normal</notehead>") in
    let t11 = t10 ++ beam_element (beam_of c.args.notes.now c.args.spot.now.note) in
    let t12 = t11 ++ notations c.args.spot.now.note in
    pushed start t12 (codes "</note>\n")
    (pushed start t11 (notations c.args.spot.now.note)
    (pushed start t10 (beam_element (beam_of c.args.notes.now c.args.spot.now.note))
    (pushed start t9 (if_shown (is_red c.args.marks.now c.args.spot.now) (codes "<notehead color=\"#C00000\">normal</notehead>"))
    (pushed start t8 (sign_element c.args.spot.now.note.sign)
    (pushed start t7 (type_element c.args.spot.now.note)
    (pushed start t6 (codes "<voice>1</voice>")
    (pushed start t5 (tie_elements c.args.spot.now.note)
    (pushed start t4 (duration_element c.args.spot.now.note.slots)
    (pushed start t3 (sounding c.args.spot.now.note)
    (pushed start t2 (codes ">")
    (pushed start t1 (if_shown (is_red c.args.marks.now c.args.spot.now) (codes " color=\"#C00000\""))
    c.in_ok-push_str.ensures.bytes (said (string_bytes c.push_str.new.self) c.in_ok-put_if.ensures (ap (λ red. if_shown red (codes " color=\"#C00000\"")) c.is_red-red.ensures))) c.in_ok-push_str-2.ensures.bytes) c.in_ok-put_sounding.ensures) c.in_ok-put_duration.ensures) c.in_ok-put_ties.ensures) c.in_ok-push_str-3.ensures.bytes) c.in_ok-put_type.ensures) (said (string_bytes c.put_type.new.out) c.in_ok-push_str-4.ensures.bytes (c.sign_element.ensures))) (said (string_bytes c.push_str-4.new.self) c.in_ok-put_if-2.ensures (ap (λ red. if_shown red (codes "<notehead color=\"#C00000\">normal</notehead>")) c.is_red-red.ensures))) (said (string_bytes c.put_if-2.new.out) c.in_ok-push_str-5.ensures.bytes (c.beam_element.ensures ∙ ap beam_element c.beam_of.ensures))) c.in_ok-put_notations.ensures) c.in_ok-push_str-6.ensures.bytes
