use Rattle.std.proofs.Common.{◌≡◌, ℕ, false, sym, ◌∙◌, subst, arith}
use Rattle.species_space.specs.Task.{IsViewOf}
use Rattle.species_space.specs.Paths.{prefix_at, length-columns_on}
use Rattle.species_space.proofs.WalkSteps.{last_of_holds}
use Rattle.species_space.proofs.mixed_space.MixedSpaceSpace.is_last.Goals as goal

pub menu-requires : goal.menu-requires
menu-requires c =
    let ex = c.args.self.now.exercise in
    omega (
      arith,
      c.len.ensures ex (prefix_at ex c.requires.path) c.requires.at.state,
      length-columns_on ex 0 c.requires.path,
      c.requires.above,
    )

pub returns : goal.returns
returns c = λ held next path at is_live later floor lt le there.
    let ex = c.args.self.now.exercise in
    let node = c.args.node.now in
    let same : c.len.result ≡ node.state.newest.len = c.len.ensures ex (prefix_at ex path) at.state
    ∙ sym at.state.newest.count in
    let view = subst (λ (n : ℕ). IsViewOf ex n c.menu.result) same c.menu.ensures in
    last_of_holds ex c.args.self.now.sheet node path at _ c.args._k later false view.columns
    (view.cut.holds (sym c.is_of_holds.ensures ∙ held)) view.cut.order view.cut.full is_live lt floor there
