use Rattle.std.proofs.Common.{◌<◌, length, ap, sym, subst, arith}
use Rattle.fux_grid.specs.Exercises.{columns_in}
use Rattle.floor_tables.specs.Tables.{Task}
use Rattle.fux_judge.specs.Still.{IsStillPlace}
use Rattle.species_space.specs.Task.{IsBlockMenuOf}
use Rattle.species_space.proofs.space.SpeciesSpace.is_still.Goals as goal

pub returns : goal.returns
returns c = λ yes.
    let ex = c.self.inside.exercise.now in
    let i = c.args.i in
    let menu = c.index.result.now in
    let ready = c.self.invariant.0 in
    let within : i < length c.self.inside.menus.items = omega
    (arith, c.requires, ready.counted, ap (λ (t : Task). columns_in t.exercise) c.self.view_is) in
    let known : IsBlockMenuOf ex i menu = subst (IsBlockMenuOf ex i) (sym c.index.ensures) (ready.kept i menu within) in
    subst (λ (t : Task). IsStillPlace t.exercise i) c.self.view_is (known.still yes)
