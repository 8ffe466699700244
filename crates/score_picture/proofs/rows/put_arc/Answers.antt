use Rattle.std.proofs.Common.{◌++◌, ◌-◌, ◌/◌, string_bytes, codes}
use Rattle.score_picture.proofs.Pushed.{pushed}
use Rattle.score_picture.specs.Rows.{arc_row, told}
use Rattle.score_picture.proofs.rows.put_arc.Goals as goal

pub returns : goal.returns
unfolding arc_row
returns c =
    let start = string_bytes c.args.out.now in
    let from = c.args.from.now in
    let wide = c.args.wide in
    let t1 = told (codes "<path d=\"M") from.x in
    let t2 = t1 ++ told (codes " ") from.y in
    let t3 = t2 ++ told c.args.begin.now (wide / 2) in
    let t4 = t3 ++ told c.args.there.now wide in
    let t5 = t4 ++ told (codes " 0q-") (wide - wide / 2) in
    let t6 = t5 ++ told c.args.back.now wide in
    pushed start t6 (codes " 0z\" stroke=\"currentColor\"/>\n")
    (pushed start t5 (told c.args.back.now wide)
    (pushed start t4 (told (codes " 0q-") (wide - wide / 2))
    (pushed start t3 (told c.args.there.now wide)
    (pushed start t2 (told c.args.begin.now (wide / 2))
    (pushed start t1 (told (codes " ") from.y) c.in_ok-put_told.ensures c.in_ok-put_told-2.ensures)
    c.in_ok-put_told-3.ensures)
    c.in_ok-put_told-4.ensures)
    c.in_ok-put_told-5.ensures)
    c.in_ok-put_told-6.ensures)
    c.in_ok-push_str.ensures.bytes
