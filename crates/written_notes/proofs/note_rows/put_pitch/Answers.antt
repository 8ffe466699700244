use Rattle.std.proofs.Common.{◌++◌, string_bytes, codes, ap, ◌∙◌}
use Rattle.fux_pitch.specs.Pitch.{degree_of, alter_of}
use Rattle.written_notes.proofs.Pushed.{pushed, said}
use Rattle.written_notes.specs.NoteRows.{alter_element, octave_element, step_name, pitch_element}
use Rattle.written_notes.proofs.note_rows.put_pitch.Goals as goal

pub returns : goal.returns
unfolding pitch_element
returns c =
    let start = string_bytes c.args.out.now in
    let t1 = codes "<pitch><step>" in
    let t2 = t1 ++ step_name (degree_of c.args.pitch) in
    let t3 = t2 ++ codes "</step>" in
    let t4 = t3 ++ alter_element (alter_of c.args.pitch) in
    let t5 = t4 ++ octave_element (degree_of c.args.pitch) in
    pushed start t5 (codes "</pitch>")
    (pushed start t4 (octave_element (degree_of c.args.pitch))
    (pushed start t3 (alter_element (alter_of c.args.pitch))
    (pushed start t2 (codes "</step>")
    (pushed start t1 (step_name (degree_of c.args.pitch))
    c.in_ok-push_str.ensures.bytes (said (string_bytes c.push_str.new.self) c.in_ok-push_str-2.ensures.bytes (c.step_name.ensures ∙ ap step_name c.degree-degree.ensures))) c.in_ok-push_str-3.ensures.bytes) (said (string_bytes c.push_str-3.new.self) c.in_ok-push_str-4.ensures.bytes (c.alter_element.ensures))) (said (string_bytes c.push_str-4.new.self) c.in_ok-put_octave.ensures (ap octave_element c.degree-degree.ensures))) c.in_ok-push_str-5.ensures.bytes
