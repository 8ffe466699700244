use Rattle.std.proofs.Common.{◌<◌, sym, subst}
use Rattle.canon_space.proofs.ScoreSteps.{bar_has_place}
use Rattle.canon_space.proofs.score.canon_score.Goals as goal

pub put_bar-requires-clause-number : goal.put_bar-requires-clause-number
put_bar-requires-clause-number c =
    subst (λ n. n < 5476) (sym c.from.ensures)
    (bar_has_place c.args.space.now.canon c.args.space.now.sheet c.canon.ensures.valid.most_bars c.args.path.now
    c.requires c.loop-k.k-index c.loop-k-test.true).number

pub put_bar-requires-clause-room : goal.put_bar-requires-clause-room
put_bar-requires-clause-room c =
    rw c.loop-k.invariant.columns
    (bar_has_place c.args.space.now.canon c.args.space.now.sheet c.canon.ensures.valid.most_bars c.args.path.now
    c.requires c.loop-k.k-index c.loop-k-test.true).room
