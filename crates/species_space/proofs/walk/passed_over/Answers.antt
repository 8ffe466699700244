use Rattle.std.proofs.Common.{◌≡◌, ◌-◌, ◌<◌, ℕ, List, [], length, slice_index_or, take, ap, sym, ◌∙◌, subst, arith}
use Rattle.std.proofs.lemmas.Bool.{OnFalse_at}
use Rattle.fux_grid.specs.declared.cell.Cell.{Cell}
use Rattle.fux_grid.specs.Exercises.{IsValid}
use Rattle.fux_grid.specs.Menus.{menu_of}
use Rattle.fux_grid.proofs.MenuLemmas.{menu_of-full}
use Rattle.floor_tables.specs.Tables.{Task}
use Rattle.fux_judge.specs.Pruning.{IsFairWithin}
use Rattle.species_space.specs.Blocks.{columns_seen}
use Rattle.species_space.specs.Nodes.{IsNodeOf}
use Rattle.species_space.specs.Paths.{IsNoBetter}
use Rattle.species_space.proofs.Children.{as_long}
use Rattle.species_space.proofs.WalkSteps.{column_of_menu, pruned_no_better}
use Rattle.species_space.proofs.walk.passed_over.Goals as goal

pub may_be_better-requires-clause-valid : goal.may_be_better-requires-clause-valid
may_be_better-requires-clause-valid g c =
    subst (λ (t : Task). IsValid t.exercise) (sym c.requires.rests) c.requires.valid

pub may_be_better-requires-clause-number : goal.may_be_better-requires-clause-number
may_be_better-requires-clause-number g c =
    let i = c.args.node.now.state.newest.len in
    let within = subst (λ menu. c.args.k < length menu) c.requires.menu.columns c.requires.within in
    subst (λ (t : Task). c.args.k < length (menu_of t.exercise i)) (sym c.requires.rests) within

pub returns-then-not-may_be_better-clause-passed : goal.returns-then-not-may_be_better-clause-passed
returns-then-not-may_be_better-clause-passed g c = λ path at j le lt.
    let P : Task → Type 0 = λ t. (other : List ℕ) → IsNodeOf t.exercise t.sheet c.args.node.now other
    → IsNoBetter g.R.Rests.chained t.exercise t.sheet other c.args.best c.args.k in
    let here : IsNoBetter g.R.Rests.chained c.args.exercise.now c.args.sheet.now path c.args.best c.args.k =
    subst P c.requires.rests (OnFalse_at c.if-not-may_be_better.true c.may_be_better.ensures) path at in
    let same : c.args.k ≡ j = omega (arith, le, lt) in
    subst (λ (n : ℕ). IsNoBetter g.R.Rests.chained c.args.exercise.now c.args.sheet.now path c.args.best n) same here

pub pruned_within-requires-clause-room : goal.pruned_within-requires-clause-room
pruned_within-requires-clause-room g c =
    let node = c.requires.node in
    omega (arith, as_long c.args.exercise.now c.args.sheet.now c.args.node.now node.path node.at, node.above)

pub pruned_within-requires-clause-full : goal.pruned_within-requires-clause-full
pruned_within-requires-clause-full g c =
    let within = subst (λ menu. c.args.k < length menu) c.requires.menu.columns c.requires.within in
    ap length c.column.ensures ∙ ap (λ menu. length (slice_index_or menu c.args.k [])) c.requires.menu.columns
    ∙ menu_of-full c.args.exercise.now c.args.node.now.state.newest.len c.args.k [] within

pub returns-clause-passed : goal.returns-clause-passed
returns-clause-passed g c = λ path at j le lt.
    let ex = c.args.exercise.now in
    let sheet = c.args.sheet.now in
    let menu = columns_seen c.args.menu.now in
    let i = c.args.node.now.state.newest.len in
    let block = c.end_of_agreement.ensures in
    let inside : j < length menu = omega (arith, lt, block.within) in
    let full : length (slice_index_or menu j []) ≡ ex.voices =
    ap (λ cols. length (slice_index_or cols j [])) c.requires.menu.columns
    ∙ menu_of-full ex i j [] (subst (λ cols. j < length cols) c.requires.menu.columns inside) in
    pruned_no_better ex sheet c.args.node.now path at j g.R.Rests.chained c.args.best c.limit_of-limit.result (slice_index_or menu j [])
    (column_of_menu ex sheet c.args.node.now path at menu j c.requires.menu.columns) c.limit_of-limit.ensures
    (c.in_ok-voices.ensures.pruned _ at.state (slice_index_or menu j []) full
    (block.cells j le lt ∙ ap (take c.in_ok-voices.voices) (sym c.column.ensures)))

pub returns-in_err-voices-clause-fair : goal.returns-in_err-voices-clause-fair
returns-in_err-voices-clause-fair g c =
    let state = c.args.node.now.state in
    let P : List Cell → Type 0 = λ col. IsFairWithin 4 c.args.exercise.now state col in
    let its = subst (λ (col : List Cell). IsFairWithin c.args.tried c.args.exercise.now state col)
    (sym c.column.ensures) c.requires.tried in
    rw c.from_residual.ensures (subst P c.column.ensures (c.in_err-voices.ensures.fair its))

pub returns-clause-sound : goal.returns-clause-sound
returns-clause-sound g c =
    let state = c.args.node.now.state in
    let P : List Cell → Type 0 = λ col. IsFairWithin (c.in_ok-voices.voices - 1) c.args.exercise.now state col in
    let its = subst (λ (col : List Cell). IsFairWithin c.args.tried c.args.exercise.now state col)
    (sym c.column.ensures) c.requires.tried in
    subst P c.column.ensures (c.in_ok-voices.ensures.sound its)
