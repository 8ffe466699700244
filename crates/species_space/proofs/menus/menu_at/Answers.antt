use Rattle.std.proofs.Common.{List, ap, sym, ◌∙◌, subst}
use Rattle.fux_grid.specs.declared.cell.Cell.{Cell}
use Rattle.fux_grid.specs.Grid.{items_of}
use Rattle.fux_grid.specs.Menus.{IsAscending}
use Rattle.fux_grid.proofs.MenuLemmas.{menu_of-ascends, menu_of-full}
use Rattle.species_space.specs.Blocks.{AreBlocksOf, HasOneWidth}
use Rattle.species_space.proofs.menus.menu_at.Goals as goal

pub new-blocks-requires-clause-order : goal.new-blocks-requires-clause-order
new-blocks-requires-clause-order c =
    subst IsAscending (sym (ap items_of c.deref.ensures.value ∙ c.in-Ok.ensures.value))
    (menu_of-ascends c.args.ex.now c.args.i)

pub new-blocks-requires-clause-full : goal.new-blocks-requires-clause-full
new-blocks-requires-clause-full c =
    subst HasOneWidth (sym (ap items_of c.deref.ensures.value ∙ c.in-Ok.ensures.value))
    (c.args.ex.now.voices, menu_of-full c.args.ex.now c.args.i)

pub returns : goal.returns
returns c = record {
  columns_are = c.in-Ok.ensures.value;
  blocks_are = subst (λ (menu : List (List Cell)). AreBlocksOf menu c.new-blocks.result)
      (ap items_of c.deref.ensures.value ∙ c.in-Ok.ensures.value) c.new-blocks.ensures;
}
