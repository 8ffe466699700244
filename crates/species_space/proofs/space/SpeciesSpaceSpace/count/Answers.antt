use Rattle.std.proofs.Common.{◌<◌, length, ap, sym, ◌∙◌, subst, arith}
use Rattle.fux_grid.specs.Exercises.{columns_in}
use Rattle.fux_grid.specs.Menus.{menu_of}
use Rattle.floor_tables.specs.Tables.{Task}
use Rattle.species_space.specs.Paths.{prefix_at, length-columns_on}
use Rattle.species_space.proofs.space.SpeciesSpaceSpace.count.Goals as goal

pub width-requires : goal.width-requires
width-requires c =
    let ex = c.args.self.now.exercise in
    let there = c.len.ensures ex (prefix_at ex c.requires.path) c.requires.at.state
    ∙ length-columns_on ex 0 c.requires.path in
    subst (λ (t : Task). c.len.result < columns_in t.exercise) (sym (c.self.invariant.1 ∙ c.self.view_is))
    (omega (arith, there, c.requires.above))

pub returns-clause-value : goal.returns-clause-value
returns-clause-value c = λ path at.
    let ex = c.args.self.now.exercise in
    c.width.ensures ∙ ap (λ (t : Task). length (menu_of t.exercise c.len.result)) (c.self.invariant.1 ∙ c.self.view_is)
    ∙ ap (λ i. length (menu_of ex i)) (c.len.ensures ex (prefix_at ex path) at.state ∙ length-columns_on ex 0 path)

pub returns-clause-bounded : goal.returns-clause-bounded
returns-clause-bounded c =
    let ex = c.self.inside.exercise.now in
    let there = c.len.ensures c.args.self.now.exercise (prefix_at c.args.self.now.exercise c.requires.path)
    c.requires.at.state ∙ length-columns_on c.args.self.now.exercise 0 c.requires.path in
    let within : c.len.result < columns_in ex = omega
    (arith, there, c.requires.above, ap (λ (t : Task). columns_in t.exercise) c.self.view_is) in
    omega (
      arith,
      c.width.ensures,
      ap (λ (t : Task). length (menu_of t.exercise c.len.result)) c.self.invariant.1,
      c.self.invariant.0.narrow c.len.result within,
    )
