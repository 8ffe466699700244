use Rattle.priced_paths.proofs.Laying.{row_begins, row_more}
use Rattle.priced_paths.proofs.whole.fill_row.Goals as goal

pub loop-label-init : goal.loop-label-init
loop-label-init g c =
    row_begins (g.P.Pricing.step_at c.args.pricing.now) c.args.states.now.keys c.args.at c.args.state.now _ c.clear.ensures.items

pub loop-label-preserved : goal.loop-label-preserved
loop-label-preserved g c =
    row_more (g.P.Pricing.step_at c.args.pricing.now) c.args.states.now.keys c.args.at c.args.state.now c.loop-label.label
    c.loop-label.row.items _ c.edge_to-edge.result c.loop-label.invariant c.in_ok-push.ensures.items c.edge_to-edge.ensures
