use Rattle.std.proofs.Common.{◌++◌, codes}
use Rattle.class_marker.proofs.Pushed.{pushed}
use Rattle.class_marker.specs.Pages.{table}
use Rattle.class_marker.proofs.page.put_table.Goals as goal

pub returns : goal.returns
unfolding table
returns c =
    let start = c.args.out.now.items in
    let t1 = codes "<table>\n<tr><th>name</th><th>marks</th><th>differs</th></tr>\n" in
    let t2 = t1 ++ c.args.rows.now in
    pushed start t2 (codes "</table>\n")
    (pushed start t1 c.args.rows.now c.in_ok-put.ensures c.in_ok-extend_from_slice.ensures.items) c.in_ok-put-2.ensures
