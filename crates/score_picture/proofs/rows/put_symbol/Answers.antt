use Rattle.std.proofs.Common.{◌++◌, string_bytes, codes}
use Rattle.score_picture.proofs.Pushed.{pushed, said}
use Rattle.score_picture.specs.Rows.{symbol_name, symbol_row, told}
use Rattle.score_picture.proofs.rows.put_symbol.Goals as goal

pub returns : goal.returns
unfolding symbol_row
returns c =
    let start = string_bytes c.args.out.now in
    let at = c.args.at.now in
    let name = symbol_name c.args.symbol in
    let t1 = codes "<use xlink:href=\"#" in
    let t2 = t1 ++ name in
    let t3 = t2 ++ told (codes "\" x=\"") at.x in
    let t4 = t3 ++ told (codes "\" y=\"") at.y in
    pushed start t4 (codes "\"/>\n")
    (pushed start t3 (told (codes "\" y=\"") at.y)
    (pushed start t2 (told (codes "\" x=\"") at.x)
    (pushed start t1 name c.in_ok-push_str.ensures.bytes
    (said (string_bytes c.push_str.new.self) c.in_ok-push_str-2.ensures.bytes c.symbol_name.ensures))
    c.in_ok-put_told.ensures)
    c.in_ok-put_told-2.ensures)
    c.in_ok-push_str-3.ensures.bytes
