use Rattle.priced_paths.proofs.Laying.{laid_more}
use Rattle.priced_paths.proofs.whole.lay_state.Goals as goal

pub returns : goal.returns
returns g c =
    laid_more _ _ _ _ c.args.at c.args.state.now c.labels_at-labels.result c.fill_row.new.row.items c.in_ok-spot.spot
    c.args.web.now (record { spots = c.push.new.self; edges = c.lay_row.new.edges }) c.in_ok-spot.ensures.grown.0
    c.requires.there c.labels_at-labels.ensures.value c.in_ok-fill_row.ensures
    (rw c.deref.ensures.value at c.in_ok-spot.ensures.laid) c.in_ok-spot.ensures.grown.1 c.in_ok-push.ensures.items
    c.requires.laid
