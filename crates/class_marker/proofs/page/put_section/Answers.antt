use Rattle.std.proofs.Common.{◌++◌, codes, ap}
use Rattle.std.specs.Fmt.{decimal}
use Rattle.class_marker.proofs.Pushed.{pushed, said}
use Rattle.class_marker.specs.Escapes.{escaped}
use Rattle.class_marker.specs.Pages.{entry_rows, section}
use Rattle.class_marker.proofs.page.put_section.Goals as goal

pub returns : goal.returns
unfolding section
returns c =
    let start = c.args.out.now.items in
    let t1 = codes "<section id=\"a" in
    let t2 = t1 ++ decimal c.args.number in
    let t3 = t2 ++ codes "\">\n<h2>" in
    let t4 = t3 ++ escaped c.args.name.now in
    let t5 = t4 ++ codes "</h2>\n" in
    let t6 = t5 ++ entry_rows c.args.entry.now in
    pushed start t6 (codes "</section>\n")
    (pushed start t5 (entry_rows c.args.entry.now)
    (pushed start t4 (codes "</h2>\n")
    (pushed start t3 (escaped c.args.name.now)
    (pushed start t2 (codes "\">\n<h2>")
    (pushed start t1 (decimal c.args.number)
    c.in_ok-put.ensures c.in_ok-put_number.ensures) c.in_ok-put-2.ensures) (said c.put-2.new.out.items c.in_ok-put_escaped.ensures (ap escaped c.as_bytes.ensures.value))) c.in_ok-put-3.ensures) c.in_ok-put_said.ensures) c.in_ok-put-4.ensures
