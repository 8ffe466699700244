use Rattle.std.proofs.Common.{sym, subst}
use Rattle.fux_grid.specs.Menus.{IsAscending}
use Rattle.fux_grid.proofs.MenuLemmas.{menu_of-ascends, menu_of-full}
use Rattle.species_space.specs.Blocks.{AreBlocksOf, HasOneWidth}
use Rattle.price_check.proofs.tails.blocks_at.Goals as goal

pub new-requires-clause-order : goal.new-requires-clause-order
new-requires-clause-order c =
    subst IsAscending (sym c.columns.ensures) (menu_of-ascends c.args.tables.now.exercise c.args.i)

pub new-requires-clause-full : goal.new-requires-clause-full
new-requires-clause-full c =
    let ex = c.args.tables.now.exercise in
    subst HasOneWidth (sym c.columns.ensures) (ex.voices, menu_of-full ex c.args.i)

pub returns : goal.returns
returns c = subst (λ menu. AreBlocksOf menu c.new.result) c.columns.ensures c.new.ensures
