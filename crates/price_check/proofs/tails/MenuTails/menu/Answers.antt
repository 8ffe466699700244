use Rattle.std.proofs.Common.{◌<◌, length, ap, sym, ◌∙◌, subst, arith}
use Rattle.floor_tables.specs.Tables.{Task}
use Rattle.fux_grid.specs.Exercises.{columns_in}
use Rattle.fux_grid.specs.Menus.{menu_of}
use Rattle.species_space.specs.Blocks.{AreBlocksOf}
use Rattle.price_check.proofs.tails.MenuTails.menu.Goals as goal

pub returns-clause-columns : goal.returns-clause-columns
returns-clause-columns c =
    c.columns.ensures
    ∙ ap (λ (t : Task). menu_of t.exercise c.args.i) (c.tables.ensures ∙ c.self.view_is)

pub returns-clause-cut : goal.returns-clause-cut
returns-clause-cut c =
    let i = c.args.i in
    let all = c.self.invariant in
    let blocks = c.index-blocks.result.now in
    let within : i < length c.self.inside.blocks.items = omega
    (arith, c.requires, all.counted, ap (λ (t : Task). columns_in t.exercise) c.self.view_is) in
    let inside = c.self.inside.tables.exercise in
    let known : AreBlocksOf (menu_of inside i) blocks = subst (λ b. AreBlocksOf (menu_of inside i) b)
    (sym c.index-blocks.ensures) (all.kept i blocks within) in
    subst (λ menu. AreBlocksOf menu blocks)
    (sym (c.columns.ensures ∙ ap (λ (t : Task). menu_of t.exercise i) c.tables.ensures)) known
