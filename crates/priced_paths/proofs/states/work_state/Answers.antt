use Rattle.std.proofs.Common.{arith}
use Rattle.priced_paths.proofs.Listing.{counted_more, many_edges, many_labels}
use Rattle.priced_paths.proofs.states.work_state.Goals as goal

pub returns-then-own-tally-clause-large : goal.returns-then-own-tally-clause-large
returns-then-own-tally-clause-large g c = λ same.
    many_labels _ _ _ _ c.args.at c.labels_at-own.result c.args.state.now c.args.tally c.args.states.now.keys
    c.requires.there c.requires.workable.are c.requires.counted c.labels_at-own.ensures.value
    (omega (arith, c.if-own-tally.true, c.requires.counted.few_labels))

pub returns-then-edges-tally-clause-large : goal.returns-then-edges-tally-clause-large
returns-then-edges-tally-clause-large g c = λ same.
    many_edges _ _ _ _ c.args.at c.in_ok-edges.edges c.args.state.now c.args.tally c.args.states.now.keys
    c.list_steps.new.states.keys c.requires.there c.in_ok-edges.ensures.worked c.requires.counted
    c.in_ok-edges.ensures.edges (omega (arith, c.if-edges-tally.true, c.requires.counted.few_edges))

pub returns-clause-counted : goal.returns-clause-counted
returns-clause-counted g c =
    counted_more _ _ _ _ c.args.at c.in_ok-edges.edges c.labels_at-own.result c.args.state.now c.args.tally
    c.args.states.now.keys c.list_steps.new.states.keys c.requires.there c.in_ok-edges.ensures.worked
    c.requires.counted c.labels_at-own.ensures.value c.in_ok-edges.ensures.edges
    (omega (arith, c.if-own-tally.false, c.requires.counted.few_labels))
    (omega (arith, c.if-edges-tally.false, c.requires.counted.few_edges))
