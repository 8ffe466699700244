use Rattle.std.proofs.Common.{◌≡◌, ◌∙◌, ap, sym, true, false, arith, is_some}
use Rattle.std.proofs.Math.Bool.{not, beq}
use Rattle.std.proofs.lemmas.List.{drop_all}
use Rattle.fux_grid.proofs.WholeLines.{own-other, Continues-end, Continues-more, Continues-stops}
use Rattle.fux_grid.proofs.exercise.begins_with_whole.Goals as goal
use Rattle.fux_grid.proofs.exercise.begins_with_whole.Goals.{then-line-v+else-is_some-has_whole, else-line-v}

pub returns-then-is_some-has_whole : goal.returns-then-is_some-has_whole
returns-then-is_some-has_whole c =
    let differs : not (beq (is_some c.line-item.result.bars) c.loop-line.has_whole)
    ≡ true = ap (λ b. not (beq b c.loop-line.has_whole)) (sym c.is_some.ensures) ∙ c.if-is_some-has_whole.true in (
      λ e. cc,
      λ h. absurd (Continues-stops c.args.v c.args.lines.now c.loop-line.line-index c.line-item.result
          c.loop-line.has_whole (omega arith) c.line-item.is c.if-line-v.true differs (c.loop-line.invariant.0 h)),
    )

pub loop-line-preserved : goal.loop-line-preserved
loop-line-preserved c = elim c.if-line-v.branch [
  | then-line-v+else-is_some-has_whole w ↦
      let same : not (beq (is_some c.line-item.result.bars) c.loop-line.has_whole)
      ≡ false = ap (λ b. not (beq b c.loop-line.has_whole)) (sym w.is_some.ensures)
      ∙ w.if-is_some-has_whole.false in
      let more = Continues-more c.args.v c.args.lines.now c.loop-line.line-index c.line-item.result
      c.loop-line.has_whole (omega arith) c.line-item.is w.if-line-v.true same in
      rw w.has_whole-is (λ h. more.0 (c.loop-line.invariant.0 h), λ h. c.loop-line.invariant.1 (more.1 h))
  | else-line-v w ↦
      let skips = own-other c.args.v c.args.lines.now c.loop-line.line-index c.line-item.result (omega arith)
      c.line-item.is w.if-line-v.false in
      rw (w.has_whole-is, ← skips) c.loop-line.invariant
]

pub returns : goal.returns
returns c =
    let end = Continues-end c.loop-line.has_whole c.args.v c.args.lines.now c.loop-line.line-index
    (drop_all c.loop-line.line-index c.args.lines.now (omega arith)) in
    (λ h. c.loop-line.invariant.1 (end.0 h), λ h. end.1 (c.loop-line.invariant.0 h))
