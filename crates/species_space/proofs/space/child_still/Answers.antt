use Rattle.std.proofs.Common.{◌≡◌, ℕ, ◌+◌, ◌<◌, List, [], ◌∷◌, length, reverse, slice_index_or, refl, ap, sym, ◌∙◌, subst, arith}
use Rattle.std.specs.List.{list_any}
use Rattle.std.proofs.lemmas.Bool.{OnFalse_at}
use Rattle.std.proofs.lemmas.List.Elements.{Contains-get_or}
use Rattle.fux_grid.specs.declared.cell.Cell.{Cell}
use Rattle.fux_grid.specs.declared.exercise.Exercise.{Exercise}
use Rattle.fux_grid.specs.Columns.{ColumnFollows, newest_column}
use Rattle.fux_grid.specs.Exercises.{columns_in}
use Rattle.fux_grid.specs.Menus.{IsInMenu, menu_of}
use Rattle.fux_grid.proofs.MenuLemmas.{menu_of-contains, menu_of-full}
use Rattle.fux_judge.specs.Rules.{rules_read}
use Rattle.fux_judge.specs.Penalties.{newly_broken}
use Rattle.species_space.specs.Nodes.{FollowsBehind}
use Rattle.species_space.specs.Paths.{prefix_at, column_at, width_at}
use Rattle.rule_law.specs.Prefixes.{GoesOn}
use Rattle.species_space.proofs.Alive.{goes_on_from}
use Rattle.species_space.proofs.Children.{as_long, strays, breaks, goes, made_of}
use Rattle.species_space.proofs.space.child_still.Goals as goal

-- the column is the one that the number chooses after the path
abbrev chosen : (ex : Exercise) (path : List ℕ) (k n : ℕ) (items : List Cell) → n ≡ length path → items
    ≡ slice_index_or (menu_of ex n) k [] → items ≡ column_at ex path k
chosen ex path k n items e f = f ∙ ap (λ i. slice_index_or (menu_of ex i) k []) e

pub returns-then-not-follows : goal.returns-then-not-follows
returns-then-not-follows c = λ chained is path at.
    let ex = c.args.exercise.now in
    let k = c.args.k in
    let before = newest_column (reverse (prefix_at ex path)) in
    let same = chosen ex path k c.args.node.now.state.newest.len c.args.column.now.items
    (as_long ex c.args.sheet.now c.args.node.now path at) c.requires.column in
    strays ex path k at.alive chained c.args.sheet.now
    (λ there.
    OnFalse_at c.if-not-follows.true (c.follows.ensures.strays (prefix_at ex path) at.state)
    (subst (λ (col : List Cell). ColumnFollows before col) (sym same) there))

pub step_still-requires-clause-room : goal.step_still-requires-clause-room
step_still-requires-clause-room c =
    let child = c.requires.child in
    omega (arith, as_long c.args.exercise.now c.args.sheet.now c.args.node.now child.path child.at, child.above)

pub step_still-requires-clause-full : goal.step_still-requires-clause-full
step_still-requires-clause-full c =
    let ex = c.args.exercise.now in
    let child = c.requires.child in
    let same = chosen ex child.path c.args.k c.args.node.now.state.newest.len c.args.column.now.items
    (as_long ex c.args.sheet.now c.args.node.now child.path child.at) c.requires.column in
    ap length same ∙ menu_of-full ex (length child.path) c.args.k [] child.within

pub follows-requires-clause-told : goal.follows-requires-clause-told
follows-requires-clause-told c = λ yes.
    subst (λ (col : List Cell). FollowsBehind c.args.exercise.now c.args.node.now col)
    (sym c.requires.column) (c.requires.told yes).follows

pub step_still-requires-clause-menu : goal.step_still-requires-clause-menu
step_still-requires-clause-menu c =
    let ex = c.args.exercise.now in
    let child = c.requires.child in
    let i = length child.path in
    let long = as_long ex c.args.sheet.now c.args.node.now child.path child.at in
    let same = chosen ex child.path c.args.k c.args.node.now.state.newest.len c.args.column.now.items long
    c.requires.column in
    subst (λ (n : ℕ). IsInMenu ex n c.args.column.now.items) (sym long)
    (subst (λ (col : List Cell). IsInMenu ex i col) (sym same)
    ((menu_of-contains ex i (column_at ex child.path c.args.k)).0
    (Contains-get_or (menu_of ex i) c.args.k [] child.within)))

pub returns-in_default : goal.returns-in_default
returns-in_default c = λ chained is path at.
    let ex = c.args.exercise.now in
    let k = c.args.k in
    let p = prefix_at ex path in
    let same = chosen ex path k c.args.node.now.state.newest.len c.args.column.now.items
    (as_long ex c.args.sheet.now c.args.node.now path at) c.requires.column in
    let child = c.requires.child in
    let long = as_long ex c.args.sheet.now c.args.node.now path at in
    let longer = as_long ex c.args.sheet.now c.args.node.now child.path child.at in
    let room : length path < columns_in ex = omega (arith, long, longer, child.above) in
    let same_length : length child.path ≡ length path = sym longer ∙ long in
    let within : k < width_at ex path = subst (λ n. k < length (menu_of ex n)) same_length child.within in
    let there = subst (λ (col : List Cell). ColumnFollows (newest_column (reverse p)) col) same
    (c.follows.ensures.follows c.if-not-follows.false p at.state) in
    let comes = subst (λ col. GoesOn ex p (col ∷ [])) (sym same)
    (goes_on_from ex path k c.requires.valid.most_voices at.alive room within there) in
    breaks ex path k at.alive chained c.args.sheet.now
    (ap (λ col. list_any (newly_broken ex p col) rules_read) (sym same) ∙ c.in_default.ensures.broken p at.state comes)

pub returns : goal.returns
returns c = λ chained is path at.
    let ex = c.args.exercise.now in
    let sheet = c.args.sheet.now in
    let k = c.args.k in
    let p = prefix_at ex path in
    let child = c.requires.child in
    let long = as_long ex sheet c.args.node.now path at in
    let longer = as_long ex sheet c.args.node.now child.path child.at in
    let room : length path < columns_in ex = omega (arith, long, longer, child.above) in
    let same_length : length child.path ≡ length path = sym longer ∙ long in
    let within : k < width_at ex path = subst (λ n. k < length (menu_of ex n)) same_length child.within in
    let same = chosen ex path k c.args.node.now.state.newest.len c.args.column.now.items long c.requires.column in
    let there = subst (λ (col : List Cell). ColumnFollows (newest_column (reverse p)) col) same
    (c.follows.ensures.follows c.if-not-follows.false p at.state) in
    let comes = subst (λ col. GoesOn ex p (col ∷ [])) (sym same)
    (goes_on_from ex path k c.requires.valid.most_voices at.alive room within there) in
    let unbroken = ap (λ col. list_any (newly_broken ex p col) rules_read) (sym same)
    ∙ c.in-Some.ensures.unbroken p at.state comes in
    let live = goes ex path k at.alive room within there unbroken in
    made_of ex sheet path k c.args.node.now record {
      state = c.step_still.new.next;
      paid = c.args.node.now.paid + c.in-Some.paid;
      least = c.args.node.now.least;
      hint = k;
    } c.args.column.now.items c.in-Some.paid c.args.rest at same room live chained is
    (c.in-Some.ensures.state p at.state) refl (c.in-Some.ensures.paid p at.state comes) c.in-Some.ensures.bound
    (at.least ∙ sym (c.in-Some.ensures.least p at.state comes.longer)) at.little
