use Rattle.std.proofs.Common.{List, ◌<◌, ◌∷◌, length, ap, arith, sym, subst, ◌∙◌}
use Rattle.fux_grid.specs.declared.cell.Cell.{Cell}
use Rattle.fux_grid.specs.Columns.{earlier, line}
use Rattle.fux_grid.proofs.Histories.{earlier-all, earlier-none, length-line, line-more}
use Rattle.score_marker.proofs.weighing.kept_of_line.Goals as goal

pub loop-j-init : goal.loop-j-init
loop-j-init g c =
    let P : List (List Cell) → Type 0 = λ behind. g.G.Gauge.is_of (line c.args.v behind) c.start-kept.result in
    subst P (sym (earlier-none c.args.score.now.columns)) c.start-kept.ensures

pub loop-j-preserved : goal.loop-j-preserved
loop-j-preserved g c =
    let s = c.args.score.now.columns in
    let v = c.args.v in
    let j = c.loop-j.j in
    let P : List Cell → Type 0 = λ cells. g.G.Gauge.is_of cells c.step.new.s in
    let here : j < length s = omega arith in
    let cell = ap (λ d. d ∷ line v (earlier s j)) c.cell.ensures in
    subst P (cell ∙ sym (line-more s v j here))
    (c.step.ensures (line v (earlier s j)) (length-line s v j (omega arith)) c.loop-j.invariant)

pub returns : goal.returns
returns g c =
    let s = c.args.score.now.columns in
    let P : List (List Cell) → Type 0 = λ behind. g.G.Gauge.is_of (line c.args.v behind) c.loop-j.kept in
    subst P (earlier-all s c.loop-j.j (omega arith)) c.loop-j.invariant
