use Rattle.std.proofs.Common.{◌++◌, string_bytes, codes}
use Rattle.score_picture.proofs.Pushed.{pushed}
use Rattle.score_picture.specs.NoteRows.{red_rows, shape_rows}
use Rattle.score_picture.proofs.notes.put_red.Goals as goal

pub returns : goal.returns
unfolding red_rows
returns c =
    let start = string_bytes c.args.out.now in
    let t1 = codes "<g fill=\"#c00000\" color=\"#c00000\">\n" in
    let t2 = t1 ++ shape_rows c.args.shapes.now in
    pushed start t2 (codes "</g>\n")
    (pushed start t1 (shape_rows c.args.shapes.now)
    c.in_ok-push_str.ensures.bytes c.in_ok-put_shapes.ensures)
    c.in_ok-push_str-2.ensures.bytes
