use Rattle.std.proofs.Common.{false, ◌∷◌, [], length, map, ap, arith, length-append, cond}
use Rattle.std.proofs.lemmas.List.{length-map}
use Rattle.fux_grid.specs.declared.cell.Cell.TheVariants.{Rest}
use Rattle.fux_grid.specs.Menus.{note_cell, pool_of}
use Rattle.fux_grid.proofs.Pools.{length-pool_of}
use Rattle.fux_grid.proofs.CellLemmas.{length-chosen}
use Rattle.fux_grid.proofs.menus.open_cells.Goals as goal

pub add_notes-requires-2-clause-room : goal.add_notes-requires-2-clause-room
add_notes-requires-2-clause-room c =
    let pool = pool_of c.args.ex.now c.args.v c.args.bar in
    let holds = map (note_cell false) pool in
    omega (
      arith,
      ap length c.add_notes.ensures,
      ap length c.add_rest.ensures,
      ap length c.new-cells.ensures,
      length-append c.add_rest.new.cells.items (cond c.allows-2.result holds []),
      length-append c.new-cells.result.items (cond c.allows.result (Rest ∷ []) []),
      length-chosen c.allows-2.result holds,
      length-chosen c.allows.result (Rest ∷ []),
      length-map pool (note_cell false),
      length-pool_of c.args.ex.now c.args.v c.args.bar,
    )
