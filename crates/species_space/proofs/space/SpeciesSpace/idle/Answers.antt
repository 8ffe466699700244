use Rattle.std.proofs.Common.{◌<◌, length, ap, sym, subst, arith}
use Rattle.fux_grid.specs.Exercises.{columns_in}
use Rattle.floor_tables.specs.Tables.{Task}
use Rattle.fux_judge.specs.Late.{SettleNothing}
use Rattle.species_space.specs.Task.{IsBlockMenuOf}
use Rattle.species_space.proofs.space.SpeciesSpace.idle.Goals as goal

pub returns : goal.returns
returns c =
    let i = c.args.i in
    let menu = c.index.result.now in
    let ready = c.self.invariant.0 in
    let within : i < length c.self.inside.menus.items = omega
    (arith, c.requires, ready.counted, ap (λ (t : Task). columns_in t.exercise) c.self.view_is) in
    subst (λ (t : Task). SettleNothing t.exercise i menu.idle.bits) c.self.view_is
    (subst (IsBlockMenuOf c.self.inside.exercise.now i) (sym c.index.ensures) (ready.kept i menu within)).idle
