use Rattle.std.proofs.Common.{◌≡◌, ◌*◌, ◌≤◌}
use Rattle.sheet_layout.specs.Spacing.{room_of}
use Rattle.sheet_layout.proofs.spacing.room_before.Given as goal

-- the sum is the room of the slots so far
abbrev pub invariant-loop-slot : goal.invariant-loop-slot
invariant-loop-slot l = record {
  value : l.sum ≡ room_of l.all l.slot;
  most : l.sum ≤ 32 * l.slot;
}
