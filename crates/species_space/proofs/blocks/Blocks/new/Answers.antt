use Rattle.std.proofs.Common.{◌≤◌, arith}
use Rattle.std.proofs.lemmas.List.{length-map}
use Rattle.std.proofs.lemmas.List.Elements.{All-map}
use Rattle.fux_grid.specs.Grid.{items_of}
use Rattle.species_space.specs.Blocks.{IsOnlyHolds, IsWithoutHolds, KeepsCell}
use Rattle.species_space.proofs.Passing.{four}
use Rattle.species_space.proofs.blocks.Blocks.new.Goals as goal

pub returns : goal.returns
returns c =
    let columns = c.args.columns.now in
    let a = c.block_length.result in
    let b = c.block_length-2.result in
    let d = c.block_length-3.result in
    let e = c.block_length-4.result in
    record {
      few = omega (arith, c.requires.few, length-map columns (λ col. col.items));
      order = c.requires.order;
      full = c.requires.full;
      some = four (λ v size. 1 ≤ size) a b d e c.block_length.ensures.some c.block_length-2.ensures.some
          c.block_length-3.ensures.some c.block_length-4.ensures.some;
      kept = four (λ v size. KeepsCell (items_of columns) v size) a b d e c.block_length.ensures.kept
          c.block_length-2.ensures.kept c.block_length-3.ensures.kept c.block_length-4.ensures.kept;
      holds = λ h. All-map IsOnlyHolds (λ col. col.items) columns (c.are_holds.ensures.0 h);
      no_holds = λ h. All-map IsWithoutHolds (λ col. col.items) columns (c.are_without_holds.ensures.0 h);
      held = c.held_first.ensures;
    }
