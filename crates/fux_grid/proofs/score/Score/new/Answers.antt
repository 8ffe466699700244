use Rattle.std.proofs.Common.{arith}
use Rattle.std.proofs.lemmas.List.Elements.{All-nil}
use Rattle.fux_grid.specs.Columns.{earlier}
use Rattle.fux_grid.proofs.score.Score.new.Goals as goal

pub invariant_of-result : goal.invariant_of-result
unfolding earlier
invariant_of-result c = record {
  fewest = c.requires.least;
  most = c.requires.most;
  room = c.in_ok-columns.ensures.exact;
  few = rw c.in_ok-columns.ensures.items (omega arith);
  full = rw c.in_ok-columns.ensures.items (All-nil _);
  follows = rw c.in_ok-columns.ensures.items tt;
}
