use Rattle.std.proofs.Common.{◌++◌, codes}
use Rattle.class_marker.proofs.Pushed.{pushed}
use Rattle.score_picture.specs.declared.symbols.TheConstants.{SYMBOLS}
use Rattle.class_marker.specs.Pages.{symbols}
use Rattle.class_marker.proofs.page.put_symbols.Goals as goal

pub returns : goal.returns
unfolding symbols
returns c =
    let start = c.args.out.now.items in
    let t1 = codes "<svg width=\"0\" height=\"0\" class=\"symbols\">\n" in
    let t2 = t1 ++ SYMBOLS.now in
    pushed start t2 (codes "</svg>\n")
    (pushed start t1 (SYMBOLS.now)
    c.in_ok-put.ensures c.in_ok-put-2.ensures) c.in_ok-put-3.ensures
