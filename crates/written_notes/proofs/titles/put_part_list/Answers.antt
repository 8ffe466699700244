use Rattle.std.proofs.Common.{◌++◌, string_bytes, codes}
use Rattle.written_notes.proofs.Pushed.{pushed}
use Rattle.written_notes.specs.Titles.{part_names, part_list}
use Rattle.written_notes.proofs.titles.put_part_list.Goals as goal

pub returns : goal.returns
unfolding part_list
returns c =
    let start = string_bytes c.args.out.now in
    let t1 = codes "<part-list>\n<part-group type=\"start\" number=\"1\">" in
    let t2 = t1 ++ codes "<group-symbol>bracket</group-symbol>" in
    let t3 = t2 ++ codes "<group-barline>yes</group-barline></part-group>\n" in
    let t4 = t3 ++ part_names c.args.ex.now in
    pushed start t4 (codes "<part-group type=\"stop\" number=\"1\"/>\n</part-list>\n")
    (pushed start t3 (part_names c.args.ex.now)
    (pushed start t2 (codes "<group-barline>yes</group-barline></part-group>\n")
    (pushed start t1 (codes "<group-symbol>bracket</group-symbol>")
    c.in_ok-push_str.ensures.bytes c.in_ok-push_str-2.ensures.bytes) c.in_ok-push_str-3.ensures.bytes) c.in_ok-put_names.ensures) c.in_ok-push_str-4.ensures.bytes
