use Rattle.canon_space.proofs.ScoreSteps.{held-follow}
use Rattle.canon_space.proofs.score.put_bar.Goals as goal

pub put_column-requires-in-loop-clause-follows : goal.put_column-requires-in-loop-clause-follows
put_column-requires-in-loop-clause-follows c =
    rw (c.loop.invariant.columns, c.goes_on.ensures, c.goes_on-in-loop.ensures)
    (held-follow c.args.score.now.columns c.cell_of-lower.result c.cell_of-upper.result c.loop.counter)
