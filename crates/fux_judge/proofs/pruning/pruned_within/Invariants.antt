use Rattle.std.proofs.Common.{◌≤◌, ◌*◌, List}
use Rattle.fux_grid.specs.declared.cell.Cell.{Cell}
use Rattle.fux_judge.specs.Charges.{voice_charges}
use Rattle.fux_judge.specs.Pruning.{IsFairWithin}
use Rattle.fux_judge.specs.States.{IsStateOf}
use Rattle.fux_judge.proofs.pruning.pruned_within.Given as goal

abbrev pub invariant-loop-voice : goal.invariant-loop-voice
invariant-loop-voice l = record {
  least : (p : List (List Cell)) → IsStateOf l.ex p l.state
      → l.least ≤ voice_charges l.voice l.ex l.sheet p l.col.items;
  fair : IsFairWithin l.tried l.ex l.state l.col.items → IsFairWithin l.voice l.ex l.state l.col.items;
  small : l.least ≤ 131070 * l.voice;
}
