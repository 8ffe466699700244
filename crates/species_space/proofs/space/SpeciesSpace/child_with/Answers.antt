use Rattle.std.proofs.Common.{◌≡◌, ◌<◌, ℕ, List, Some, true, length, sym, ◌∙◌, subst, arith}
use Rattle.fux_grid.specs.declared.exercise.Exercise.{Exercise}
use Rattle.fux_grid.specs.Exercises.{columns_in}
use Rattle.penalty_sheet.specs.declared.sheet.Sheet.{Sheet}
use Rattle.floor_tables.specs.Tables.{IsRest, Task}
use Rattle.fux_judge.specs.Late.{SettleNothing}
use Rattle.fux_judge.specs.Links.{IsOwnCost}
use Rattle.fux_judge.specs.Still.{IsStillPlace}
use Rattle.tree_search.specs.Space.{IsMadeChild}
use Rattle.species_space.specs.declared.node.Node.{Node}
use Rattle.species_space.specs.Nodes.{IsNodeOf, IsTold}
use Rattle.species_space.specs.Paths.{length-columns_on, live_at, prefix_at}
use Rattle.species_space.proofs.Children.{as_long, no_chain}
use Rattle.species_space.proofs.space.SpeciesSpace.child_with.Goals as goal

pub returns-in_err-column : goal.returns-in_err-column
returns-in_err-column c = λ path at.
    let ex = c.args.self.now.exercise in
    let sheet = c.args.self.now.sheet in
    let node = c.args.node.now in
    let room : node.state.newest.len < columns_in ex =
    omega (arith, as_long ex sheet node c.requires.child.path c.requires.child.at, c.requires.child.above) in
    rw c.from_residual.ensures (no_chain ex sheet node path c.args.k at room c.in_err-column.ensures.none)

pub idle-idle-requires : goal.idle-idle-requires
idle-idle-requires c =
    let ex = c.args.self.now.exercise in
    omega (
      arith,
      c.len-i.ensures ex (prefix_at ex c.requires.child.path) c.requires.child.at.state,
      length-columns_on ex 0 c.requires.child.path,
      c.requires.child.above,
    )

-- where the node stands, as the space knows it
same_place : (ex : Exercise) (sheet : Sheet) (node : Node) (path : List ℕ) (n : ℕ) → IsNodeOf ex sheet node path
    → n ≡ length (prefix_at ex path) → n ≡ node.state.newest.len
same_place ex sheet node path n at e = e ∙ sym at.state.newest.count

pub is_still-requires : goal.is_still-requires
is_still-requires c =
    let ex = c.args.self.now.exercise in
    omega (
      arith,
      c.len-i.ensures ex (prefix_at ex c.requires.child.path) c.requires.child.at.state,
      length-columns_on ex 0 c.requires.child.path,
      c.requires.child.above,
    )

pub child_by-requires-clause-idle : goal.child_by-requires-clause-idle
child_by-requires-clause-idle c =
    let ex = c.args.self.now.exercise in
    let child = c.requires.child in
    let same = same_place ex c.args.self.now.sheet c.args.node.now child.path c.len-i.result child.at
    (c.len-i.ensures ex (prefix_at ex child.path) child.at.state) in
    subst (λ (t : Task). SettleNothing t.exercise c.args.node.now.state.newest.len c.idle-idle.result.bits)
    (sym c.self.view_is) (subst (λ (n : ℕ). SettleNothing ex n c.idle-idle.result.bits) same c.idle-idle.ensures)

pub child_still-requires-clause-idle : goal.child_still-requires-clause-idle
child_still-requires-clause-idle c =
    let ex = c.args.self.now.exercise in
    let child = c.requires.child in
    let same = same_place ex c.args.self.now.sheet c.args.node.now child.path c.len-i.result child.at
    (c.len-i.ensures ex (prefix_at ex child.path) child.at.state) in
    subst (λ (t : Task). SettleNothing t.exercise c.args.node.now.state.newest.len c.idle-idle.result.bits)
    (sym c.self.view_is) (subst (λ (n : ℕ). SettleNothing ex n c.idle-idle.result.bits) same c.idle-idle.ensures)

pub child_still-requires-clause-still : goal.child_still-requires-clause-still
child_still-requires-clause-still c =
    let ex = c.args.self.now.exercise in
    let child = c.requires.child in
    let same = same_place ex c.args.self.now.sheet c.args.node.now child.path c.len-i.result child.at
    (c.len-i.ensures ex (prefix_at ex child.path) child.at.state) in
    subst (λ (t : Task). IsStillPlace t.exercise c.args.node.now.state.newest.len) (sym c.self.view_is)
    (subst (λ (n : ℕ). IsStillPlace ex n) same (c.is_still.ensures c.if-is_still.true))

pub child_by-requires-clause-told : goal.child_by-requires-clause-told
child_by-requires-clause-told c = λ yes.
    subst (λ (t : Task). IsTold t.exercise c.args.node.now c.args.k) (sym c.self.view_is) (c.requires.told yes)

pub child_still-requires-clause-told : goal.child_still-requires-clause-told
child_still-requires-clause-told c = λ yes.
    subst (λ (t : Task). IsTold t.exercise c.args.node.now c.args.k) (sym c.self.view_is) (c.requires.told yes)

pub child_by-requires-clause-own : goal.child_by-requires-clause-own
child_by-requires-clause-own c =
    subst
    (λ (t : Task). IsOwnCost t.exercise t.sheet c.args.node.now.state.newest.len c.in_ok-column.column.now.items
    c.in_ok-column.own)
    (sym c.self.view_is) c.in_ok-column.ensures.own

pub returns-then-is_still : goal.returns-then-is_still
returns-then-is_still c =
    let node = c.args.node.now in
    let rest = subst
    (λ (t : Task). IsRest t.exercise t.sheet node.state.newest.len c.in_ok-column.column.now.items
    (Some c.in_ok-column.rest))
    (sym c.self.view_is) c.in_ok-column.ensures.rest in
    subst
    (λ (t : Task). IsMadeChild (IsNodeOf t.exercise t.sheet) (live_at t.exercise t.sheet) c.args.k node
    c.child_still.new.child c.child_still.result)
    c.self.view_is (c.child_still.ensures true rest)

pub returns : goal.returns
returns c =
    let node = c.args.node.now in
    let own = subst
    (λ (t : Task). IsRest t.exercise t.sheet node.state.newest.len c.in_ok-column.column.now.items
    (Some c.in_ok-column.rest))
    (sym c.self.view_is) c.in_ok-column.ensures.rest in
    subst
    (λ (t : Task). IsMadeChild (IsNodeOf t.exercise t.sheet) (live_at t.exercise t.sheet) c.args.k node
    c.child_by.new.child c.child_by.result)
    c.self.view_is (c.child_by.ensures true own)
