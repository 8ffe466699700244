use Rattle.std.proofs.Common.{◌≡◌, ◌<◌, length, ap, sym, ◌∙◌, subst, arith}
use Rattle.fux_grid.specs.Exercises.{columns_in}
use Rattle.fux_grid.specs.Grid.{items_of}
use Rattle.fux_grid.specs.Menus.{menu_of}
use Rattle.floor_tables.specs.Tables.{Task}
use Rattle.species_space.specs.Blocks.{AreBlocksOf, AreUndead}
use Rattle.species_space.specs.Task.{IsBlockMenuOf}
use Rattle.species_space.proofs.space.SpeciesSpace.menu.Goals as goal

pub returns : goal.returns
returns c =
    let ex = c.args.self.now.exercise in
    let i = c.args.i in
    let menu = c.index-menu.result.now in
    let ready = c.self.invariant.0 in
    let within : i < length c.self.inside.menus.items = omega
    (arith, c.requires, ready.counted, ap (λ (t : Task). columns_in t.exercise) c.self.view_is) in
    let known : IsBlockMenuOf ex i menu = subst (λ (t : Task). IsBlockMenuOf t.exercise i menu) c.self.view_is
    (subst (IsBlockMenuOf c.self.inside.exercise.now i) (sym c.index-menu.ensures) (ready.kept i menu within)) in
    let columns : items_of c.columns.result.now ≡ menu_of ex i =
    c.columns.ensures ∙ ap (λ (t : Task). menu_of t.exercise i) (c.self.invariant.1 ∙ c.self.view_is) in
    let undead = c.as_slice.ensures.value in
    record {
      columns = columns;
      cut = subst (λ cols. AreBlocksOf cols menu.blocks) (sym columns) known.blocks;
      skip = subst (λ cols. AreUndead ex i cols c.as_slice.result.now) (sym columns)
          (subst (AreUndead ex i (menu_of ex i)) (sym undead) known.skip);
    }
