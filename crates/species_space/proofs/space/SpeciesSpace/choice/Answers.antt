use Rattle.std.proofs.Common.{None, Some, ◌≡◌, ◌<◌, ℕ, List, [], Option, length, slice_index_or, ap, sym, ◌∙◌, subst, arith}
use Rattle.fux_grid.specs.declared.cell.Cell.{Cell}
use Rattle.fux_grid.specs.Exercises.{columns_in}
use Rattle.fux_grid.specs.Menus.{menu_of}
use Rattle.floor_tables.specs.Tables.{IsRest, Task}
use Rattle.fux_judge.specs.Links.{IsOwnCost}
use Rattle.species_space.specs.Paths.{prefix_at, length-columns_on}
use Rattle.species_space.proofs.space.SpeciesSpace.choice.Goals as goal

-- a place, as the tables know it, and a number in its menu
place_in : (t task : Task) (i n : ℕ) → t ≡ task → i ≡ n → n < columns_in task.exercise → i < columns_in t.exercise
place_in t task i n e f h =
    omega (arith, f, h, ap (λ (u : Task). columns_in u.exercise) e)

choice_in : (t task : Task) (i n k : ℕ) → t ≡ task → i ≡ n → k < length (menu_of task.exercise n)
    → k < length (menu_of t.exercise i)
choice_in t task i n k e f h = subst (λ (u : Task). k < length (menu_of u.exercise i)) (sym e)
    (subst (λ m. k < length (menu_of task.exercise m)) (sym f) h)

column_of : (t task : Task) (i n k : ℕ) → t ≡ task → i ≡ n
    → slice_index_or (menu_of t.exercise i) k [] ≡ slice_index_or (menu_of task.exercise n) k []
column_of t task i n k e f = ap (λ (u : Task). slice_index_or (menu_of u.exercise i) k []) e
    ∙ ap (λ (m : ℕ). slice_index_or (menu_of task.exercise m) k []) f

rest_at : (t task : Task) (i n k : ℕ) (result : Option ℕ) → t ≡ task → i ≡ n
    → IsRest t.exercise t.sheet i (slice_index_or (menu_of t.exercise i) k []) result
    → (rest : Option ℕ) → result ≡ rest
    → IsRest task.exercise task.sheet n (slice_index_or (menu_of task.exercise n) k []) rest
rest_at t task i n k result e f is rest g =
    subst (λ (o : Option ℕ). IsRest task.exercise task.sheet n (slice_index_or (menu_of task.exercise n) k []) o) g
    (subst (λ (m : ℕ). IsRest task.exercise task.sheet m (slice_index_or (menu_of task.exercise m) k []) result) f
    (subst (λ (u : Task). IsRest u.exercise u.sheet i (slice_index_or (menu_of u.exercise i) k []) result) e is))

pub rest_of_number-requires-clause-place : goal.rest_of_number-requires-clause-place
rest_of_number-requires-clause-place c =
    let ex = c.args.self.now.exercise in
    place_in _ c.args.self.now c.len-i.result (length c.requires.path) (c.self.invariant.1 ∙ c.self.view_is)
    (c.len-i.ensures ex (prefix_at ex c.requires.path) c.requires.at.state ∙ length-columns_on ex 0 c.requires.path)
    c.requires.above

pub rest_of_number-requires-clause-choice : goal.rest_of_number-requires-clause-choice
rest_of_number-requires-clause-choice c =
    let ex = c.args.self.now.exercise in
    choice_in _ c.args.self.now c.len-i.result (length c.requires.path) c.args.k
    (c.self.invariant.1 ∙ c.self.view_is)
    (c.len-i.ensures ex (prefix_at ex c.requires.path) c.requires.at.state ∙ length-columns_on ex 0 c.requires.path)
    c.requires.within

pub column-requires-clause-place : goal.column-requires-clause-place
column-requires-clause-place c =
    let ex = c.args.self.now.exercise in
    place_in _ c.args.self.now c.len-i.result (length c.requires.path) (c.self.invariant.1 ∙ c.self.view_is)
    (c.len-i.ensures ex (prefix_at ex c.requires.path) c.requires.at.state ∙ length-columns_on ex 0 c.requires.path)
    c.requires.above

pub column-requires-clause-within : goal.column-requires-clause-within
column-requires-clause-within c =
    let ex = c.args.self.now.exercise in
    choice_in _ c.args.self.now c.len-i.result (length c.requires.path) c.args.k
    (c.self.invariant.1 ∙ c.self.view_is)
    (c.len-i.ensures ex (prefix_at ex c.requires.path) c.requires.at.state ∙ length-columns_on ex 0 c.requires.path)
    c.requires.within

pub own-requires-clause-place : goal.own-requires-clause-place
own-requires-clause-place c =
    let ex = c.args.self.now.exercise in
    omega (
      arith,
      c.len-i.ensures ex (prefix_at ex c.requires.path) c.requires.at.state,
      length-columns_on ex 0 c.requires.path,
      c.requires.above,
    )

pub own-requires-clause-within : goal.own-requires-clause-within
own-requires-clause-within c =
    let ex = c.args.self.now.exercise in
    subst (λ (n : ℕ). c.args.k < length (menu_of ex n))
    (sym (c.len-i.ensures ex (prefix_at ex c.requires.path) c.requires.at.state ∙ length-columns_on ex 0 c.requires.path))
    c.requires.within

-- the place is where the node stands, and the tables are of the space's exercise
pub returns-in_err-rest-clause-none : goal.returns-in_err-rest-clause-none
returns-in_err-rest-clause-none c =
    let ex = c.args.self.now.exercise in
    let same : c.len-i.result ≡ c.args.node.now.state.newest.len = c.len-i.ensures ex (prefix_at ex c.requires.path)
    c.requires.at.state ∙ sym c.requires.at.state.newest.count in
    rw c.from_residual.ensures
    (rest_at _ c.args.self.now c.len-i.result _ c.args.k _ (c.self.invariant.1 ∙ c.self.view_is) same
    c.rest_of_number.ensures.rest None c.in_err-rest.was)

pub returns-clause-column : goal.returns-clause-column
returns-clause-column c =
    let ex = c.args.self.now.exercise in
    let same : c.len-i.result ≡ c.args.node.now.state.newest.len = c.len-i.ensures ex (prefix_at ex c.requires.path)
    c.requires.at.state ∙ sym c.requires.at.state.newest.count in
    c.column.ensures
    ∙ column_of _ c.args.self.now c.len-i.result _ c.args.k (c.self.invariant.1 ∙ c.self.view_is) same

pub returns-clause-rest : goal.returns-clause-rest
returns-clause-rest c =
    let ex = c.args.self.now.exercise in
    let sheet = c.args.self.now.sheet in
    let i = c.args.node.now.state.newest.len in
    let same : c.len-i.result ≡ i = c.len-i.ensures ex (prefix_at ex c.requires.path) c.requires.at.state
    ∙ sym c.requires.at.state.newest.count in
    let view = c.self.invariant.1 ∙ c.self.view_is in
    subst (λ (col : List Cell). IsRest ex sheet i col (Some c.in_ok-rest.rest))
    (sym (c.column.ensures ∙ column_of _ c.args.self.now c.len-i.result _ c.args.k view same))
    (rest_at _ c.args.self.now c.len-i.result _ c.args.k _ view same c.rest_of_number.ensures.rest
    (Some c.in_ok-rest.rest) c.in_ok-rest.was)

pub returns-clause-own : goal.returns-clause-own
returns-clause-own c =
    let ex = c.args.self.now.exercise in
    let sheet = c.args.self.now.sheet in
    let i = c.args.node.now.state.newest.len in
    let own = c.own.result in
    let same : c.len-i.result ≡ i = c.len-i.ensures ex (prefix_at ex c.requires.path) c.requires.at.state
    ∙ sym c.requires.at.state.newest.count in
    subst (λ (col : List Cell). IsOwnCost ex sheet i col own)
    (sym (c.column.ensures ∙ column_of _ c.args.self.now c.len-i.result _ c.args.k (c.self.invariant.1 ∙ c.self.view_is) same))
    (subst (λ (n : ℕ). IsOwnCost ex sheet n (slice_index_or (menu_of ex n) c.args.k []) own) same c.own.ensures)
