use Rattle.std.proofs.Common.{◌<◌, [], length, slice_index_or, ap, sym, subst, arith}
use Rattle.fux_grid.specs.Exercises.{columns_in}
use Rattle.fux_grid.specs.Menus.{menu_of}
use Rattle.floor_tables.specs.Tables.{Task}
use Rattle.fux_judge.specs.Links.{IsOwnCost}
use Rattle.species_space.specs.declared.own.OwnCosts.{OwnCosts}
use Rattle.species_space.proofs.space.SpeciesSpace.own.Goals as goal

pub returns : goal.returns
returns c =
    let ex = c.self.inside.exercise.now in
    let sheet = c.self.inside.sheet.now in
    let i = c.args.i in
    let k = c.args.k in
    let row = c.index.result.now in
    let rows = c.self.invariant.2 in
    let within : i < length c.self.inside.own.items = omega
    (arith, c.requires.place, rows.counted, ap (λ (t : Task). columns_in t.exercise) c.self.view_is) in
    let there : k < length (menu_of ex i) =
    subst (λ (t : Task). k < length (menu_of t.exercise i)) (sym c.self.view_is) c.requires.within in
    subst (λ (t : Task). IsOwnCost t.exercise t.sheet i (slice_index_or (menu_of t.exercise i) k []) c.of.result)
    c.self.view_is
    (subst (IsOwnCost ex sheet i (slice_index_or (menu_of ex i) k [])) (sym c.of.ensures)
    (subst (λ (r : OwnCosts). IsOwnCost ex sheet i (slice_index_or (menu_of ex i) k []) (slice_index_or r.costs.items k 0))
    (sym c.index.ensures) (rows.kept i row within k there)))
