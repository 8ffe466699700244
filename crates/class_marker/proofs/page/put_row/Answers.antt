use Rattle.std.proofs.Common.{◌++◌, codes, ap}
use Rattle.std.specs.Fmt.{decimal}
use Rattle.class_marker.proofs.Pushed.{pushed, said}
use Rattle.class_marker.specs.Escapes.{escaped}
use Rattle.class_marker.specs.Pages.{differs_cell, marks_cell, row_of}
use Rattle.class_marker.proofs.page.put_row.Goals as goal

pub returns : goal.returns
unfolding row_of
returns c =
    let start = c.args.out.now.items in
    let t1 = codes "<tr><td><a href=\"#a" in
    let t2 = t1 ++ decimal c.args.number in
    let t3 = t2 ++ codes "\">" in
    let t4 = t3 ++ escaped c.args.name.now in
    let t5 = t4 ++ codes "</a></td><td>" in
    let t6 = t5 ++ marks_cell c.args.entry.now in
    let t7 = t6 ++ codes "</td><td>" in
    let t8 = t7 ++ differs_cell c.args.entry.now in
    pushed start t8 (codes "</td></tr>\n")
    (pushed start t7 (differs_cell c.args.entry.now)
    (pushed start t6 (codes "</td><td>")
    (pushed start t5 (marks_cell c.args.entry.now)
    (pushed start t4 (codes "</a></td><td>")
    (pushed start t3 (escaped c.args.name.now)
    (pushed start t2 (codes "\">")
    (pushed start t1 (decimal c.args.number)
    c.in_ok-put.ensures c.in_ok-put_number.ensures) c.in_ok-put-2.ensures) (said c.put-2.new.out.items c.in_ok-put_escaped.ensures (ap escaped c.as_bytes.ensures.value))) c.in_ok-put-3.ensures) c.in_ok-put_marks.ensures) c.in_ok-put-4.ensures) c.in_ok-put_differs.ensures) c.in_ok-put-5.ensures
