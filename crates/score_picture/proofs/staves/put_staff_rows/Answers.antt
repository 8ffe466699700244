use Rattle.std.proofs.Common.{◌-◌, ◌++◌, ap, ◌∙◌, string_bytes}
use Rattle.score_picture.proofs.Pushed.{pushed, said}
use Rattle.score_picture.specs.StaffRows.{cut_sign, five_lines, is_first, lines_begin, opening}
use Rattle.score_picture.proofs.staves.put_staff_rows.Goals as goal

pub returns : goal.returns
returns c =
    let start = string_bytes c.args.out.now in
    let ex = c.args.ex.now in
    let place = c.args.place.now in
    let staff = c.args.staff.now in
    let width = place.room.width in
    let t1 = five_lines (lines_begin (is_first place)) width (staff.y - 16) in
    let t2 = t1 ++ opening ex (is_first place) staff in
    pushed start t2 (cut_sign c.args.bar staff.y)
    (pushed start t1 (opening ex (is_first place) staff)
    (said start c.in_ok-put_five_lines.ensures
    (ap (λ from. five_lines from width c.saturating_sub-top.result)
    (c.lines_begin.ensures ∙ ap lines_begin c.is_first-first.ensures)
    ∙ ap (five_lines (lines_begin (is_first place)) width) c.saturating_sub-top.ensures))
    (said (string_bytes c.put_five_lines.new.out) c.in_ok-put_opening.ensures
    (ap (λ first. opening ex first staff) c.is_first-first.ensures)))
    c.in_ok-put_cut_sign.ensures
