use Rattle.std.proofs.Common.{◌≡◌, false, ◌+◌, [], Some, refl, ap, ◌∙◌, subst, arith}
use Rattle.fux_grid.specs.Exercises.{IsValid}
use Rattle.rule_law.specs.Prefixes.{IsPrefix}
use Rattle.fux_judge.specs.Gauges.{least_of}
use Rattle.fux_judge.specs.Penalties.{paid}
use Rattle.fux_judge.specs.States.{IsStateOf}
use Rattle.floor_tables.specs.Tables.{Task}
use Rattle.species_space.specs.Exact.{menus_are_exact}
use Rattle.species_space.specs.Leaves.{prefix_is_alive}
use Rattle.species_space.proofs.Children.{begun_alive}
use Rattle.species_space.specs.Grows.{with_some}
use Rattle.species_space.proofs.mixed_space.MixedSpaceSpace.root.Goals as goal

pub returns : goal.returns
returns c =
    let ex = c.args.self.now.exercise in
    let sheet = c.args.self.now.sheet in
    let valid = subst (λ (t : Task). IsValid t.exercise) c.self.view_is c.self.invariant.valid in
    let alive = begun_alive ex valid in
    let prefix : IsPrefix ex [] = (prefix_is_alive ex (menus_are_exact ex) [] alive).prefix in
    let state = subst (λ (t : Task). IsStateOf t.exercise [] c.start-state.result) c.self.view_is c.start-state.ensures
    in
    let lines : c.least-least.result ≡ least_of ex sheet [] =
    subst (λ (t : Task). IsStateOf t.exercise [] c.start-state.result → IsPrefix t.exercise [] → c.least-least.result
    ≡ least_of t.exercise t.sheet [])
    c.self.view_is (c.least-least.ensures.value []) state prefix in
    let none : paid ex sheet [] ≡ 0 = refl in
    let sum : paid ex sheet [] + least_of ex sheet [] ≡ c.least-least.result = omega (arith, none, lines) in (
      record {
        state = state;
        alive = alive;
        paid = refl;
        least = lines;
        few = omega arith;
        little = c.least-least.ensures.bound;
      },
      with_some false ex sheet [] alive ∙ ap Some sum,
    )
