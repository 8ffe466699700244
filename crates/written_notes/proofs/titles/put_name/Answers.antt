use Rattle.std.proofs.Common.{◌++◌, string_bytes, codes}
use Rattle.std.specs.Fmt.{decimal}
use Rattle.written_notes.proofs.Pushed.{pushed}
use Rattle.written_notes.specs.Titles.{called, part_name}
use Rattle.written_notes.proofs.titles.put_name.Goals as goal

pub returns : goal.returns
unfolding part_name
returns c =
    let start = string_bytes c.args.out.now in
    let t1 = codes "<score-part id=\"P" ++ decimal c.args.v ++ codes "\"><part-name>" in
    let t2 = t1 ++ called c.args.ex.now c.args.v in
    pushed start t2 (codes "</part-abbreviation></score-part>\n")
    (pushed start t1 (called c.args.ex.now c.args.v)
    c.in_ok-write.ensures.bytes c.in_ok-put_called.ensures) c.in_ok-push_str.ensures.bytes
