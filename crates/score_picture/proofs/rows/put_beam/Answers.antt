use Rattle.std.proofs.Common.{◌++◌, string_bytes, codes}
use Rattle.score_picture.proofs.Pushed.{pushed}
use Rattle.score_picture.specs.Rows.{beam_row, told}
use Rattle.score_picture.proofs.rows.put_beam.Goals as goal

pub returns : goal.returns
unfolding beam_row
returns c =
    let start = string_bytes c.args.out.now in
    let from = c.args.from.now in
    let to = c.args.to.now in
    let t1 = told (codes "<path d=\"M") from.x in
    let t2 = t1 ++ told (codes " ") from.y in
    let t3 = t2 ++ told (codes "L") to.x in
    let t4 = t3 ++ told (codes " ") to.y in
    pushed start t4 (codes "\" stroke=\"currentColor\" stroke-width=\"4\"/>\n")
    (pushed start t3 (told (codes " ") to.y)
    (pushed start t2 (told (codes "L") to.x)
    (pushed start t1 (told (codes " ") from.y) c.in_ok-put_told.ensures c.in_ok-put_told-2.ensures)
    c.in_ok-put_told-3.ensures)
    c.in_ok-put_told-4.ensures)
    c.in_ok-push_str.ensures.bytes
