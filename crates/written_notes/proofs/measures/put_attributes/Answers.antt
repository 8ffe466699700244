use Rattle.std.proofs.Common.{◌++◌, string_bytes, codes}
use Rattle.written_notes.proofs.Pushed.{pushed, said}
use Rattle.fux_pitch.specs.Modes.{mode_name}
use Rattle.written_notes.specs.Measures.{clef_element, attributes}
use Rattle.written_notes.proofs.measures.put_attributes.Goals as goal

pub returns : goal.returns
unfolding attributes
returns c =
    let start = string_bytes c.args.out.now in
    let t1 = codes "<attributes><divisions>2</divisions><key><fifths>0</fifths><mode>" in
    let t2 = t1 ++ mode_name c.args.mode in
    let t3 = t2 ++ codes "</mode></key><time symbol=\"cut\"><beats>2</beats><beat-type>2</beat-type></time>" in
    let t4 = t3 ++ clef_element c.args.clef in
    pushed start t4 (codes "</attributes>\n")
    (pushed start t3 (clef_element c.args.clef)
    (pushed start t2 (codes "</mode></key><time symbol=\"cut\"><beats>2</beats><beat-type>2</beat-type></time>")
    (pushed start t1 (mode_name c.args.mode)
    c.in_ok-push_str.ensures.bytes (said (string_bytes c.push_str.new.self) c.in_ok-push_str-2.ensures.bytes (c.mode_name.ensures))) c.in_ok-push_str-3.ensures.bytes) (said (string_bytes c.push_str-3.new.self) c.in_ok-push_str-4.ensures.bytes (c.clef_element.ensures))) c.in_ok-push_str-5.ensures.bytes
