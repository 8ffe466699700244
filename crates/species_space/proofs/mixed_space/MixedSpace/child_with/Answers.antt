use Rattle.std.proofs.Common.{◌≡◌, ◌<◌, ℕ, false, refl, length, sym, ◌∙◌, subst, arith}
use Rattle.fux_grid.specs.Menus.{menu_of}
use Rattle.floor_tables.specs.Tables.{Task}
use Rattle.fux_judge.specs.Late.{SettleNothing}
use Rattle.tree_search.specs.Space.{IsMadeChild}
use Rattle.species_space.specs.Nodes.{IsNodeOf, IsTold}
use Rattle.species_space.specs.Paths.{live_with, prefix_at, length-columns_on}
use Rattle.species_space.proofs.mixed_space.MixedSpace.child_with.Goals as goal

pub column-column-requires-clause-place : goal.column-column-requires-clause-place
column-column-requires-clause-place c =
    let ex = c.args.self.now.exercise in
    omega (
      arith,
      c.len.ensures ex (prefix_at ex c.requires.child.path) c.requires.child.at.state,
      length-columns_on ex 0 c.requires.child.path,
      c.requires.child.above,
    )

pub column-column-requires-clause-within : goal.column-column-requires-clause-within
column-column-requires-clause-within c =
    let ex = c.args.self.now.exercise in
    let here : c.len.result ≡ length c.requires.child.path = c.len.ensures ex (prefix_at ex c.requires.child.path)
    c.requires.child.at.state ∙ length-columns_on ex 0 c.requires.child.path in
    subst (λ n. c.args.k < length (menu_of ex n)) (sym here) c.requires.child.within

pub idle-requires : goal.idle-requires
idle-requires c =
    let ex = c.args.self.now.exercise in
    omega (
      arith,
      c.len-2.ensures ex (prefix_at ex c.requires.child.path) c.requires.child.at.state,
      length-columns_on ex 0 c.requires.child.path,
      c.requires.child.above,
    )

pub child_by-requires-clause-idle : goal.child_by-requires-clause-idle
child_by-requires-clause-idle c =
    let ex = c.args.self.now.exercise in
    let same : c.len-2.result ≡ c.args.node.now.state.newest.len = c.len-2.ensures ex (prefix_at ex c.requires.child.path)
    c.requires.child.at.state ∙ sym c.requires.child.at.state.newest.count in
    subst (λ (t : Task). SettleNothing t.exercise c.args.node.now.state.newest.len c.idle.result.bits)
    (sym c.self.view_is) (subst (λ (n : ℕ). SettleNothing ex n c.idle.result.bits) same c.idle.ensures)

pub child_by-requires-clause-told : goal.child_by-requires-clause-told
child_by-requires-clause-told c = λ yes.
    subst (λ (t : Task). IsTold t.exercise c.args.node.now c.args.k) (sym c.self.view_is) (c.requires.told yes)

pub returns : goal.returns
returns c =
    subst
    (λ (t : Task). IsMadeChild (IsNodeOf t.exercise t.sheet) (live_with false t.exercise t.sheet) c.args.k
    c.args.node.now c.child_by.new.child c.child_by.result)
    c.self.view_is (c.child_by.ensures false refl)
