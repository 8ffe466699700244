use Rattle.std.proofs.Common.{◌↔◌, drop}
use Rattle.fux_grid.specs.Exercises.{BeginsWithWhole}
use Rattle.fux_grid.proofs.WholeLines.{Continues, own}
use Rattle.fux_grid.proofs.exercise.begins_with_whole.Given as goal

abbrev pub invariant-loop-line : goal.invariant-loop-line
invariant-loop-line l =
    BeginsWithWhole (own l.v l.lines) ↔ Continues l.has_whole (own l.v (drop l.line-index l.lines))
