use Rattle.std.proofs.Common.{ℕ, ◌+◌, ◌<◌, true, List, [], ◌∷◌, ◌++◌, length, slice_index_or, refl, ap, sym, ◌∙◌, subst, arith}
use Rattle.std.proofs.lemmas.List.Elements.{Contains-get_or}
use Rattle.fux_grid.specs.declared.cell.Cell.{Cell}
use Rattle.fux_grid.specs.Exercises.{columns_in}
use Rattle.fux_grid.specs.Menus.{IsInMenu, menu_of}
use Rattle.fux_grid.proofs.MenuLemmas.{menu_of-contains, menu_of-full}
use Rattle.rule_law.specs.Prefixes.{GoesOn}
use Rattle.tree_search.proofs.Trails.{has_child}
use Rattle.species_space.specs.Grows.{paths_grow}
use Rattle.species_space.specs.Paths.{prefix_at}
use Rattle.species_space.proofs.Alive.{goes_on_alive}
use Rattle.species_space.proofs.Children.{as_long, made_of}
use Rattle.species_space.proofs.Live.{path_is_alive}
use Rattle.species_space.proofs.space.child_still_again.Goals as goal

pub again_still-paid-requires-clause-room : goal.again_still-paid-requires-clause-room
again_still-paid-requires-clause-room c =
    let child = has_child (paths_grow c.args.exercise.now c.args.sheet.now) c.requires.child in
    omega (arith, as_long c.args.exercise.now c.args.sheet.now c.args.node.now child.path child.at, child.above)

pub again_still-paid-requires-clause-full : goal.again_still-paid-requires-clause-full
again_still-paid-requires-clause-full c =
    let ex = c.args.exercise.now in
    let child = has_child (paths_grow ex c.args.sheet.now) c.requires.child in
    let same = c.requires.column ∙ ap (λ i. slice_index_or (menu_of ex i) c.args.k [])
    (as_long ex c.args.sheet.now c.args.node.now child.path child.at) in
    ap length same ∙ menu_of-full ex (length child.path) c.args.k [] child.within

pub again_still-paid-requires-clause-menu : goal.again_still-paid-requires-clause-menu
again_still-paid-requires-clause-menu c =
    let ex = c.args.exercise.now in
    let child = has_child (paths_grow ex c.args.sheet.now) c.requires.child in
    let i = length child.path in
    let long = as_long ex c.args.sheet.now c.args.node.now child.path child.at in
    let same = c.requires.column ∙ ap (λ n. slice_index_or (menu_of ex n) c.args.k []) long in
    subst (λ (n : ℕ). IsInMenu ex n c.args.column.now.items) (sym long)
    (subst (λ (col : List Cell). IsInMenu ex i col) (sym same)
    ((menu_of-contains ex i (slice_index_or (menu_of ex i) c.args.k [])).0
    (Contains-get_or (menu_of ex i) c.args.k [] child.within)))

pub returns : goal.returns
returns c = λ path at is_live.
    let ex = c.args.exercise.now in
    let sheet = c.args.sheet.now in
    let k = c.args.k in
    let p = prefix_at ex path in
    let child = has_child (paths_grow ex sheet) c.requires.child in
    let long = as_long ex sheet c.args.node.now path at in
    let room : length path < columns_in ex =
    omega (arith, long, as_long ex sheet c.args.node.now child.path child.at, child.above) in
    let same = c.requires.column ∙ ap (λ i. slice_index_or (menu_of ex i) k []) long in
    let live = path_is_alive true ex sheet (path ++ k ∷ []) is_live in
    let comes = subst (λ (col : List Cell). GoesOn ex p (col ∷ [])) (sym same)
    (goes_on_alive ex path k c.requires.valid.most_voices at.alive live) in
    made_of ex sheet path k c.args.node.now record {
      state = c.again_still-paid.new.next;
      paid = c.args.node.now.paid + c.again_still-paid.result;
      least = c.args.node.now.least;
      hint = k;
    } c.args.column.now.items c.again_still-paid.result c.args.rest at same room live true c.requires.rest
    (c.again_still-paid.ensures.state p at.state) refl (c.again_still-paid.ensures.paid p at.state comes) c.again_still-paid.ensures.bound
    (at.least ∙ sym (c.again_still-paid.ensures.least p at.state comes.longer)) at.little
