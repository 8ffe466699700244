use Rattle.std.proofs.Common.{◌≡◌, ◌+◌, [], Some, refl, ap, sym, ◌∙◌, subst, arith}
use Rattle.fux_grid.specs.Exercises.{IsValid}
use Rattle.rule_law.specs.Prefixes.{IsPrefix}
use Rattle.fux_judge.specs.Gauges.{least_of}
use Rattle.fux_judge.specs.Penalties.{paid}
use Rattle.fux_judge.specs.States.{IsStateOf}
use Rattle.floor_tables.specs.Tables.{IsStart, Task}
use Rattle.floor_tables.proofs.RestLemmas.{start_is}
use Rattle.species_space.specs.Exact.{menus_are_exact}
use Rattle.species_space.specs.Grows.{live_some}
use Rattle.species_space.specs.Leaves.{prefix_is_alive}
use Rattle.species_space.specs.FloorLaws.{floor_of_rest, no_floor}
use Rattle.species_space.proofs.Children.{begun_alive}
use Rattle.species_space.proofs.space.SpeciesSpaceSpace.root.Goals as goal

pub returns-in_err-start : goal.returns-in_err-start
returns-in_err-start c =
    let ex = c.args.self.now.exercise in
    let sheet = c.args.self.now.sheet in
    let valid = subst (λ (t : Task). IsValid t.exercise) c.self.view_is c.self.invariant.0.valid in
    let start = subst (λ (t : Task). IsStart t.exercise t.sheet c.start.result) (c.self.invariant.1 ∙ c.self.view_is)
    c.start.ensures.start in
    rw c.from_residual.ensures
    (live_some ex sheet [] (begun_alive ex valid)
    ∙ no_floor ex sheet [] (sym (start_is ex sheet c.start.result start) ∙ c.in_err-start.was))

pub returns : goal.returns
returns c =
    let ex = c.args.self.now.exercise in
    let sheet = c.args.self.now.sheet in
    let valid = subst (λ (t : Task). IsValid t.exercise) c.self.view_is c.self.invariant.0.valid in
    let alive = begun_alive ex valid in
    let prefix : IsPrefix ex [] = (prefix_is_alive ex (menus_are_exact ex) [] alive).prefix in
    let state = subst (λ (t : Task). IsStateOf t.exercise [] c.start-state.result) c.self.view_is c.start-state.ensures
    in
    let start = subst (λ (t : Task). IsStart t.exercise t.sheet c.start.result) (c.self.invariant.1 ∙ c.self.view_is)
    c.start.ensures.start in
    let lines : c.least-least.result ≡ least_of ex sheet [] =
    subst (λ (t : Task). IsStateOf t.exercise [] c.start-state.result → IsPrefix t.exercise [] → c.least-least.result
    ≡ least_of t.exercise t.sheet [])
    c.self.view_is (c.least-least.ensures.value []) state prefix in
    let none : paid ex sheet [] ≡ 0 = refl in
    let sum : paid ex sheet [] + least_of ex sheet [] + c.in_ok-start.start
    ≡ c.least-least.result + c.in_ok-start.start = omega (arith, none, lines) in (
      record {
        state = state;
        alive = alive;
        paid = refl;
        least = lines;
        few = omega arith;
        little = c.least-least.ensures.bound;
      },
      live_some ex sheet [] alive
          ∙ floor_of_rest ex sheet [] c.in_ok-start.start
          (sym (start_is ex sheet c.start.result start) ∙ c.in_ok-start.was)
          ∙ ap Some sum,
    )
