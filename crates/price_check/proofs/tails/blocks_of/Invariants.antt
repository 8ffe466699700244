use Rattle.std.proofs.Common.{◌≡◌, ◌≤◌, length}
use Rattle.std.specs.Prelude.{vec_capacity}
use Rattle.price_check.specs.Blocks.{AreFirstBlocks}
use Rattle.price_check.proofs.tails.blocks_of.Given as goal

-- those of the places so far, and room for the rest
abbrev pub invariant-loop-i : goal.invariant-loop-i
invariant-loop-i l = record {
  counted : length l.blocks.items ≡ l.i;
  room : l.places ≤ vec_capacity l.blocks;
  kept : AreFirstBlocks l.ex l.blocks.items;
}
