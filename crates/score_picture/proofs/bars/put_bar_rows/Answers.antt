use Rattle.std.proofs.Common.{[], ◌∷◌, ◌++◌, string_bytes, codes}
use Rattle.std.specs.Fmt.{decimal}
use Rattle.score_picture.proofs.Pushed.{pushed}
use Rattle.score_picture.specs.Pictures.{bar_rows, staves_in_bar}
use Rattle.score_picture.specs.Pieces.{joined}
use Rattle.score_picture.specs.StaffRows.{bar_lines}
use Rattle.score_picture.proofs.bars.put_bar_rows.Goals as goal

pub returns : goal.returns
unfolding bar_rows
returns c =
    let start = string_bytes c.args.out.now in
    let ex = c.args.marked.now.ex.now in
    let marks = c.args.marked.now.marks.now in
    let lines = c.args.lines.now in
    let staves = c.args.staves.now in
    let bar = c.args.bar.now in
    let t1 = joined (codes "<g transform=\"translate(" ∷ decimal bar.place.left ∷ codes "," ∷ decimal bar.place.top
    ∷ codes ")\">\n" ∷ []) in
    let t2 = t1 ++ staves_in_bar ex marks lines bar.bar bar.place bar.tie_end staves in
    let t3 = t2 ++ bar_lines ex staves bar.bar bar.place in
    pushed start t3 (codes "</g>\n")
    (pushed start t2 (bar_lines ex staves bar.bar bar.place)
    (pushed start t1 (staves_in_bar ex marks lines bar.bar bar.place bar.tie_end staves)
    c.in_ok-write.ensures.bytes c.in_ok-put_staves.ensures)
    c.in_ok-put_bar_lines.ensures)
    c.in_ok-push_str.ensures.bytes
