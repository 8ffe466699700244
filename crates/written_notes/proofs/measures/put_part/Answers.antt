use Rattle.std.proofs.Common.{◌++◌, string_bytes, codes}
use Rattle.std.specs.Fmt.{decimal}
use Rattle.written_notes.proofs.Pushed.{pushed}
use Rattle.written_notes.specs.Measures.{measures, part}
use Rattle.written_notes.proofs.measures.put_part.Goals as goal

pub returns : goal.returns
unfolding part
returns c =
    let start = string_bytes c.args.out.now in
    let t1 = codes "<part id=\"P" ++ decimal c.args.voice ++ codes "\">\n" in
    let t2 = t1 ++ measures c.args.ex.now c.args.marks.now c.args.voice c.args.line.now in
    pushed start t2 (codes "</part>\n")
    (pushed start t1 (measures c.args.ex.now c.args.marks.now c.args.voice c.args.line.now)
    c.in_ok-write.ensures.bytes c.in_ok-put_measures.ensures) c.in_ok-push_str.ensures.bytes
