use Rattle.std.proofs.Common.{◌≡◌, false, sym, arith}
use Rattle.fux_grid.specs.Cells.{cell_in, cell_follows}
use Rattle.fux_grid.proofs.FaultLemmas.{lowest_misfit-some}
use Rattle.fux_grid.proofs.score.Score.misfit.Goals as goal

pub returns-then-not-follows-clause-value : goal.returns-then-not-follows-clause-value
returns-then-not-follows-clause-value c =
    let here : cell_follows (cell_in c.newest-newest.result.now c.loop-v.v) (cell_in c.args.col.now.items c.loop-v.v)
    ≡ false = cc in
    rw (← c.newest-newest.ensures) (sym (lowest_misfit-some _ _ c.loop-v.v (omega arith) c.loop-v.invariant here))
