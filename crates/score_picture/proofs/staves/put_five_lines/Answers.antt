use Rattle.std.proofs.Common.{◌≡◌, ◌+◌, ◌*◌, ◌++◌, ap, ◌∙◌, string_bytes, arith}
use Rattle.written_notes.proofs.Steps.{part-made}
use Rattle.score_picture.specs.StaffRows.{five_lines, level}
use Rattle.score_picture.proofs.staves.put_five_lines.Goals as goal

pub loop-line-preserved : goal.loop-line-preserved
loop-line-preserved c =
    let from = c.args.from.now in
    let width = c.args.width in
    let top = c.args.top in
    let line = c.loop-line.line in
    let before = string_bytes c.loop-line.out in
    let y : c.from.result + 8 * c.from-in-loop-line.result ≡ top + 8 * line =
    omega (arith, c.from.ensures, c.from-in-loop-line.ensures) in
    part-made (λ k. level from width (top + 8 * k)) line 5 before (string_bytes c.put_level.new.out)
    (string_bytes c.args.out.now ++ five_lines from width top) c.loop-line-test.true
    (c.in_ok-put_level.ensures ∙ ap (λ height. before ++ level from width height) y) c.loop-line.invariant
