use Rattle.std.proofs.Common.{◌++◌, string_bytes, codes, ap, ◌∙◌}
use Rattle.written_notes.specs.declared.document.TheConstants.{HEAD}
use Rattle.written_notes.specs.Titles.{part_list, title}
use Rattle.written_notes.proofs.Pushed.{pushed, said}
use Rattle.written_notes.specs.Documents.{marks_of, parts, document}
use Rattle.written_notes.proofs.document.score_xml.Goals as goal

pub returns : goal.returns
unfolding document
returns c =
    let start = string_bytes c.new-out.result in
    let t1 = HEAD.now in
    let t2 = t1 ++ title c.args.titled.now c.args.marks in
    let t3 = t2 ++ codes "<identification><encoding><software>fux</software></encoding></identification>\n" in
    let t4 = t3 ++ part_list c.args.ex.now in
    let t5 = t4 ++ parts c.args.ex.now (marks_of c.args.marks) in
    pushed start t5 (codes "</score-partwise>\n")
    (pushed start t4 (parts c.args.ex.now (marks_of c.args.marks))
    (pushed start t3 (part_list c.args.ex.now)
    (pushed start t2 (codes "<identification><encoding><software>fux</software></encoding></identification>\n")
    (pushed start t1 (title c.args.titled.now c.args.marks)
    c.in_ok-push_str.ensures.bytes c.in_ok-put_title.ensures) c.in_ok-push_str-2.ensures.bytes) c.in_ok-put_part_list.ensures) (said (string_bytes c.put_part_list.new.out) c.in_ok-put_parts.ensures (ap (parts c.args.ex.now) c.marks_of.ensures))) c.in_ok-push_str-3.ensures.bytes
    ∙ ap (λ begun. begun ++ document c.args.ex.now c.args.titled.now c.args.marks) c.new-out.ensures.bytes
