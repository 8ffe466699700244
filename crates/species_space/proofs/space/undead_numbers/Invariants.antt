-- What is known of the columns so far.
use Rattle.std.proofs.Common.{◌≤◌, length}
use Rattle.fux_grid.specs.Grid.{items_of}
use Rattle.species_space.specs.Blocks.{AreAlwaysDead, SkipDead}
use Rattle.species_space.proofs.Passing.{AreSoundSoFar}
use Rattle.species_space.proofs.space.undead_numbers.Given as goal

-- all columns that have no number yet are dead after every prefix
abbrev pub invariant-loop-k : goal.invariant-loop-k
invariant-loop-k l = record {
  short : length l.numbers.items ≤ l.k;
  skip : SkipDead l.exercise l.i (items_of l.columns) l.numbers.items;
  sound : AreSoundSoFar l.exercise l.i (items_of l.columns) l.numbers.items;
  beyond : AreAlwaysDead l.exercise l.i (items_of l.columns) (length l.numbers.items) l.k;
}
