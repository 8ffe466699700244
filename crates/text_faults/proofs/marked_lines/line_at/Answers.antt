use Rattle.std.proofs.Common.{◌+◌, ◌-◌, ap, sym, ◌∙◌}
use Rattle.text_faults.specs.MarkedLines.{behind_feeds}
use Rattle.text_faults.proofs.Rows.{feeds-next}
use Rattle.text_faults.proofs.marked_lines.line_at.Goals as goal

pub loop-preserved : goal.loop-preserved
loop-preserved c =
    ap (behind_feeds (c.args.number - (c.loop.counter + 1))) c.behind_feed-rest.ensures
    ∙ sym (feeds-next c.loop.counter c.args.number c.loop.rest.now c.loop-test.true) ∙ c.loop.invariant
