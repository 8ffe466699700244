use Rattle.std.proofs.Common.{◌++◌, string_bytes, codes}
use Rattle.score_picture.proofs.Pushed.{pushed}
use Rattle.score_picture.specs.Rows.{stem_row, told}
use Rattle.score_picture.proofs.rows.put_stem.Goals as goal

pub returns : goal.returns
unfolding stem_row
returns c =
    let start = string_bytes c.args.out.now in
    let from = c.args.from.now in
    let t1 = told (codes "<path d=\"M") from.x in
    let t2 = t1 ++ told (codes " ") from.y in
    let t3 = t2 ++ told (codes "V") c.args.tip in
    pushed start t3 (codes "\" stroke=\"currentColor\" stroke-width=\"1.2\"/>\n")
    (pushed start t2 (told (codes "V") c.args.tip)
    (pushed start t1 (told (codes " ") from.y) c.in_ok-put_told.ensures c.in_ok-put_told-2.ensures)
    c.in_ok-put_told-3.ensures)
    c.in_ok-push_str.ensures.bytes
