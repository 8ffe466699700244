-- What the walk over a menu passes.
use Rattle.std.proofs.Common.{◌-◌, ◌<◌, ◌≤◌, [], length, slice_index_or}
use Rattle.fux_grid.specs.Columns.{ColumnFollows}
use Rattle.species_space.specs.Blocks.{IsUnskipped, columns_seen}
use Rattle.species_space.specs.Nodes.{IsFairIn, PassesOver}
use Rattle.species_space.proofs.walk.next_unpruned.Given as goal

-- each column so far is dead, or no better than the best
abbrev pub invariant-loop-k : goal.invariant-loop-k
invariant-loop-k g l = record {
  onward : l.from ≤ l.k;
  within : l.k ≤ length (columns_seen l.menu);
  told : IsFairIn l.tried l.exercise l.node l.menu l.k;
  follows : l.k < length (columns_seen l.menu) → ColumnFollows l.before (slice_index_or (columns_seen l.menu) l.k []);
  unskipped : l.k < length (columns_seen l.menu) → IsUnskipped l.menu.undead.now l.k;
  passed : PassesOver g.R.Rests.chained l.exercise l.sheet l.node l.fn.best l.from l.k;
}

abbrev pub decreases-loop-k : goal.decreases-loop-k
decreases-loop-k g l = length (columns_seen l.menu) - l.k
