use Rattle.std.proofs.Common.{◌↔◌, drop}
use Rattle.fux_grid.specs.declared.given.Given.TheVariants.{Tied}
use Rattle.fux_grid.specs.Givens.{FollowOn}
use Rattle.fux_grid.proofs.given.follow_on.Given as goal

abbrev pub invariant-loop-given : goal.invariant-loop-given
invariant-loop-given l = FollowOn Tied l.cells ↔ FollowOn l.before (drop l.given-index l.cells)
