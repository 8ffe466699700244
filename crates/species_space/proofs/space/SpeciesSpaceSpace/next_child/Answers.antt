use Rattle.std.proofs.Common.{◌≡◌, true, ◌<◌, ℕ, List, [], length, slice_index_or, ap, sym, ◌∙◌, subst, arith}
use Rattle.fux_grid.specs.declared.cell.Cell.{Cell}
use Rattle.fux_grid.specs.Exercises.{columns_in}
use Rattle.fux_grid.specs.Menus.{menu_of}
use Rattle.floor_tables.specs.Tables.{Task}
use Rattle.tree_search.specs.Space.{IsInner}
use Rattle.species_space.specs.Blocks.{columns_seen}
use Rattle.species_space.specs.Nodes.{IsNodeOf, IsTold, IsToldBehind}
use Rattle.species_space.specs.Task.{IsViewOf}
use Rattle.species_space.specs.Paths.{ArePassed, prefix_at, length-columns_on}
use Rattle.species_space.proofs.space.SpeciesSpaceSpace.next_child.Goals as goal

pub menu-menu-requires : goal.menu-menu-requires
menu-menu-requires c =
    let ex = c.args.self.now.exercise in
    omega (
      arith,
      c.len.ensures ex (prefix_at ex c.requires.child.path) c.requires.child.at.state,
      length-columns_on ex 0
          c.requires.child.path,
      c.requires.child.above,
    )

pub next_unpruned-requires-clause-node : goal.next_unpruned-requires-clause-node
next_unpruned-requires-clause-node c =
    subst (λ (t : Task). IsInner (IsNodeOf t.exercise t.sheet c.args.node.now) (columns_in t.exercise))
    (sym c.self.view_is)
    record { path = c.requires.child.path; at = c.requires.child.at; above = c.requires.child.above }

pub next_unpruned-requires-clause-menu : goal.next_unpruned-requires-clause-menu
next_unpruned-requires-clause-menu c =
    let ex = c.args.self.now.exercise in
    let same : c.len.result ≡ c.args.node.now.state.newest.len = c.len.ensures ex (prefix_at ex c.requires.child.path)
    c.requires.child.at.state ∙ sym c.requires.child.at.state.newest.count in
    subst (λ (t : Task). IsViewOf t.exercise c.args.node.now.state.newest.len c.menu-menu.result) (sym c.self.view_is)
    (subst (λ n. IsViewOf ex n c.menu-menu.result) same c.menu-menu.ensures)

pub next_unpruned-requires-clause-within : goal.next_unpruned-requires-clause-within
next_unpruned-requires-clause-within c =
    let ex = c.args.self.now.exercise in
    let there = c.len.ensures ex (prefix_at ex c.requires.child.path) c.requires.child.at.state
    ∙ length-columns_on ex 0 c.requires.child.path in
    omega (arith, c.requires.child.within, ap length c.menu-menu.ensures.columns, ap (λ i. length (menu_of ex i)) there)

pub returns-clause-onward : goal.returns-clause-onward
returns-clause-onward c = c.next_unpruned.ensures.onward

pub returns-clause-passed : goal.returns-clause-passed
returns-clause-passed c = λ path at child floor from to there.
    subst (λ (t : Task). (other : List ℕ) → IsNodeOf t.exercise t.sheet c.args.node.now other
    → ArePassed true t.exercise t.sheet other c.args.best c.args.from c.next_unpruned.result)
    c.self.view_is c.next_unpruned.ensures.passed path at child from to floor there

pub next_unpruned-requires-clause-before : goal.next_unpruned-requires-clause-before
next_unpruned-requires-clause-before c = λ j e.
    let state = c.args.node.now.state in
    let same : c.len.result ≡ state.newest.len =
    c.len.ensures c.args.self.now.exercise (prefix_at c.args.self.now.exercise c.requires.child.path)
    c.requires.child.at.state ∙ sym c.requires.child.at.state.newest.count in
    let columns = subst
    (λ (t : Task). columns_seen c.menu-menu.result ≡ menu_of t.exercise state.newest.len) (sym c.self.view_is)
    (c.menu-menu.ensures.columns ∙ ap (menu_of c.args.self.now.exercise) same) in
    subst (λ (cols : List (List Cell)). IsToldBehind c.self.inside.exercise.now c.args.node.now (slice_index_or cols j []))
    (sym columns) (subst (λ (t : Task). IsTold t.exercise c.args.node.now j) (sym c.self.view_is) (c.requires.before j e))

pub returns-clause-told : goal.returns-clause-told
returns-clause-told c = λ path at lt.
    let ex = c.args.self.now.exercise in
    let node = c.args.node.now in
    let state = node.state in
    let same : c.len.result ≡ state.newest.len =
    c.len.ensures ex (prefix_at ex path) at.state ∙ sym at.state.newest.count in
    let columns = subst
    (λ (t : Task). columns_seen c.menu-menu.result ≡ menu_of t.exercise state.newest.len) (sym c.self.view_is)
    (c.menu-menu.ensures.columns ∙ ap (menu_of ex) same) in
    let there : length path ≡ state.newest.len = sym (length-columns_on ex 0 path) ∙ sym at.state.newest.count in
    let within = subst (λ (cols : List (List Cell)). c.next_unpruned.result < length cols) (sym columns)
    (subst (λ (t : Task). c.next_unpruned.result < length (menu_of t.exercise state.newest.len)) (sym c.self.view_is)
    (subst (λ (n : ℕ). c.next_unpruned.result < length (menu_of ex n)) there lt)) in
    subst (λ (t : Task). IsTold t.exercise node c.next_unpruned.result) c.self.view_is
    (subst (λ (cols : List (List Cell)). IsToldBehind c.self.inside.exercise.now c.args.node.now (slice_index_or cols c.next_unpruned.result []))
    columns (c.next_unpruned.ensures.told within))
