use Rattle.std.proofs.Common.{◌≡◌, ◌<◌, IsSome, Option, ℕ, ◌∙◌, arith, subst, sym, true≢false}
use Rattle.fux_grid.specs.Exercises.{columns_in}
use Rattle.floor_tables.specs.Tables.{Task}
use Rattle.fux_judge.specs.Still.{IsStillPlace}
use Rattle.tree_search.proofs.Trails.{has_child}
use Rattle.species_space.specs.Grows.{paths_grow}
use Rattle.species_space.specs.Paths.{length-columns_on, prefix_at}
use Rattle.species_space.proofs.Children.{as_long, no_chain}
use Rattle.species_space.proofs.space.SpeciesSpaceSpace.remake.Goals as goal

pub choice-requires : goal.choice-requires
choice-requires c = has_child (paths_grow c.args.self.now.exercise c.args.self.now.sheet) c.requires

pub returns-in_default : goal.returns-in_default
returns-in_default c = λ path at live.
    let ex = c.args.self.now.exercise in
    let sheet = c.args.self.now.sheet in
    let node = c.args.node.now in
    let child = has_child (paths_grow ex sheet) c.requires in
    let room : node.state.newest.len < columns_in ex = omega (arith, as_long ex sheet node child.path child.at, child.above)
    in
    absurd (true≢false
    (sym (subst (λ (o : Option ℕ). IsSome o) (no_chain ex sheet node path c.args.k at room c.in_default.ensures.none) live)))

pub is_still-requires : goal.is_still-requires
is_still-requires c =
    let ex = c.args.self.now.exercise in
    let child = has_child (paths_grow ex c.args.self.now.sheet) c.requires in
    omega (
      arith,
      c.len.ensures ex (prefix_at ex child.path) child.at.state,
      length-columns_on ex 0 child.path,
      child.above,
    )

pub child_still_again-requires-clause-still : goal.child_still_again-requires-clause-still
child_still_again-requires-clause-still c =
    let ex = c.args.self.now.exercise in
    let child = has_child (paths_grow ex c.args.self.now.sheet) c.requires in
    let same : c.len.result ≡ c.args.node.now.state.newest.len = c.len.ensures ex (prefix_at ex child.path) child.at.state
    ∙ sym child.at.state.newest.count in
    subst (λ (t : Task). IsStillPlace t.exercise c.args.node.now.state.newest.len) (sym c.self.view_is)
    (subst (λ (n : ℕ). IsStillPlace ex n) same (c.is_still.ensures c.if-is_still.true))
