use Rattle.std.proofs.Common.{◌+◌, ◌<◌, ◌∙◌, ◌++◌, ap, arith, length, sym, take}
use Rattle.fux_grid.specs.Columns.{onsets_since}
use Rattle.class_marker.proofs.NoteSteps.{kept-on, since-other, since-start}
use Rattle.class_marker.proofs.notes.push_between.Goals as goal
use Rattle.class_marker.proofs.notes.push_between.Goals.{in-Start+in_ok-push, in_default}

pub loop-start-preserved : goal.loop-start-preserved
loop-start-preserved c =
    let s = c.args.score.now.columns in
    let v = c.args.v in
    let i = c.loop-start.start in
    let end = c.args.end in
    let before : i < end =
    omega (arith, c.loop-start-test.true, c.min-start-end.ensures, c.len.ensures.value) in
    let there : i < length s =
    omega (arith, c.loop-start-test.true, c.min-start-end.ensures, c.len.ensures.value) in
    let rest = onsets_since (take end s) v (i + 1) in
    elim c.match-cell.branch [
      | in-Start+in_ok-push w ↦ ap (λ n. n.items ++ rest) w.notes-is
          ∙ kept-on _ c.loop-start.notes.items w.push.new.self.items _ rest _
          w.in_ok-push.ensures.items
          (since-start s v i end w.in-Start.pitch before there (sym c.cell.ensures ∙ w.in-Start.is))
          c.loop-start.invariant
      | in_default w ↦ ap (λ n. n.items ++ rest) w.notes-is
          ∙ ap (λ t. c.loop-start.notes.items ++ t)
          (sym (since-other s v i end before there
          (λ p e. w.in_default.not-Start p (c.cell.ensures ∙ e))))
          ∙ c.loop-start.invariant
    ]
