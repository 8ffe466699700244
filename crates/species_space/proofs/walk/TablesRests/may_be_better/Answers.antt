use Rattle.std.proofs.Common.{◌≡◌, ◌+◌, ◌<◌, ◌≤◌, ℕ, Bool, true, false, nat_lt, [], Option, Some, length, slice_index_or, refl, sym, ◌∙◌, subst, arith}
use Rattle.std.specs.Bool.{OnFalse}
use Rattle.std.specs.Prelude.{IsSomeAnd}
use Rattle.std.proofs.lemmas.Bool.Decides.{nat_tests}
use Rattle.fux_grid.specs.Menus.{menu_of}
use Rattle.fux_judge.specs.Gauges.{least_of}
use Rattle.fux_judge.specs.Penalties.{paid}
use Rattle.floor_tables.specs.Tables.{IsRest}
use Rattle.species_space.specs.Paths.{length-columns_on, prefix_at}
use Rattle.species_space.proofs.Children.{as_long, no_better_by_rest}
use Rattle.species_space.proofs.walk.TablesRests.may_be_better.Goals as goal

pub rest_of_number-requires-clause-place : goal.rest_of_number-requires-clause-place
rest_of_number-requires-clause-place c =
    let ex = c.args.self.now.exercise in
    let path = c.requires.node.path in
    omega (
      arith,
      c.len.ensures ex (prefix_at ex path) c.requires.node.at.state,
      length-columns_on ex 0 path,
      c.requires.node.above,
    )

pub rest_of_number-requires-clause-choice : goal.rest_of_number-requires-clause-choice
rest_of_number-requires-clause-choice c =
    let ex = c.args.self.now.exercise in
    let path = c.requires.node.path in
    let here : c.len.result ≡ c.args.node.now.state.newest.len = c.len.ensures ex (prefix_at ex path)
    c.requires.node.at.state ∙ sym c.requires.node.at.state.newest.count in
    subst (λ n. c.args.k < length (menu_of ex n)) (sym here) c.requires.number

pub returns-in_default : goal.returns-in_default
returns-in_default c = λ path at.
    let ex = c.args.self.now.exercise in
    let sheet = c.args.self.now.sheet in
    let here : c.len.result ≡ length path = c.len.ensures ex (prefix_at ex path) at.state
    ∙ length-columns_on ex 0 path in
    let long = as_long ex sheet c.args.node.now path at in
    let longer = as_long ex sheet c.args.node.now c.requires.node.path c.requires.node.at in
    let is = subst (λ (n : ℕ). IsRest ex sheet n (slice_index_or (menu_of ex n) c.args.k []) c.rest_of_number.result)
    here c.rest_of_number.ensures.rest in
    no_better_by_rest ex path c.args.k at.alive sheet c.rest_of_number.result c.args.best
    (omega (arith, long, longer, c.requires.node.above)) is
    (λ x e. absurd (c.in_default.not-Some x e))

unless : (b : Bool) (A : Type 0) → (b ≡ false → A) → OnFalse b A
unless true A h = tt
unless false A h = h refl

pub returns-in-Some-best : goal.returns-in-Some-best
returns-in-Some-best c =
    let ex = c.args.self.now.exercise in
    let sheet = c.args.self.now.sheet in
    let rest = c.in-Some.rest in
    let value = c.in-Some-best.value in
    unless (nat_lt (c.args.node.now.paid + c.args.node.now.least + rest) value) _
    (λ no path at.
    let here : c.len.result ≡ length path = c.len.ensures ex (prefix_at ex path) at.state
    ∙ length-columns_on ex 0 path in
    let long = as_long ex sheet c.args.node.now path at in
    let longer = as_long ex sheet c.args.node.now c.requires.node.path c.requires.node.at in
    let is = subst (λ (n : ℕ). IsRest ex sheet n (slice_index_or (menu_of ex n) c.args.k []) c.rest_of_number.result)
    here c.rest_of_number.ensures.rest in
    let dear : value ≤ c.args.node.now.paid + c.args.node.now.least + rest = reaches value
    (c.args.node.now.paid + c.args.node.now.least + rest) no in
    no_better_by_rest ex path c.args.k at.alive sheet c.rest_of_number.result c.args.best
    (omega (arith, long, longer, c.requires.node.above)) is
    (λ x e.
    let same : rest ≡ x = same_number rest x (sym c.in-Some.is ∙ e) in
    subst (λ (best : Option ℕ). IsSomeAnd best
    (λ v. v ≤ paid ex sheet (prefix_at ex path) + least_of ex sheet (prefix_at ex path) + x))
    (sym c.in-Some-best.is)
    (omega (arith, dear, same, at.paid, at.least))))
  where
    reaches : (v n : ℕ) → nat_lt n v ≡ false → v ≤ n
    reaches v n h = grind (arith, nat_tests)

    same_number : (m n : ℕ) → Some m ≡ Some n → m ≡ n
    same_number m n h = cc
