-- What the walk over the blocks of a voice keeps.
use Rattle.std.proofs.Common.{length, ◌-◌, ◌<◌}
use Rattle.species_space.specs.Blocks.{AreStrays, columns_seen}
use Rattle.species_space.proofs.blocks.MenuView.behind_misfit.Given as goal

-- no column that was passed may follow
abbrev pub invariant-loop-end : goal.invariant-loop-end
invariant-loop-end l = record {
  onward : l.k < l.end;
  passed : AreStrays (columns_seen l.self) l.before l.k l.end;
}

abbrev pub decreases-loop-end : goal.decreases-loop-end
decreases-loop-end l = length (columns_seen l.self) - l.end
