-- What the walk over a menu passes.
use Rattle.std.proofs.Common.{◌-◌, ◌<◌, ◌≤◌, [], length, slice_index_or}
use Rattle.fux_grid.specs.Columns.{ColumnFollows}
use Rattle.species_space.specs.Blocks.{PassesDead, columns_seen}
use Rattle.species_space.proofs.walk.next_choice.Given as goal

-- each column so far strays or dies
abbrev pub invariant-loop-k : goal.invariant-loop-k
invariant-loop-k l = record {
  onward : l.from ≤ l.k;
  within : l.k ≤ length (columns_seen l.menu);
  follows : l.k < length (columns_seen l.menu) → ColumnFollows l.before (slice_index_or (columns_seen l.menu) l.k []);
  passed : PassesDead l.menu l.before l.from l.k;
}

abbrev pub decreases-loop-k : goal.decreases-loop-k
decreases-loop-k l = length (columns_seen l.menu) - l.k
