use Rattle.std.proofs.Common.{◌<◌, ℕ, inl, inr, List, [], length, slice_index_or, sym, subst, arith}
use Rattle.fux_grid.specs.declared.cell.Cell.{Cell}
use Rattle.fux_grid.specs.Columns.{ColumnFollows}
use Rattle.std.proofs.lemmas.Bool.{OnFalse_at, cases_eq}
use Rattle.fux_grid.specs.Exercises.{IsValid}
use Rattle.fux_grid.specs.Menus.{menu_of}
use Rattle.floor_tables.specs.Tables.{Task}
use Rattle.species_space.specs.Blocks.{columns_seen}
use Rattle.species_space.specs.Nodes.{IsNodeOf}
use Rattle.species_space.specs.Paths.{IsNoBetter}
use Rattle.species_space.proofs.Fair.{held_told}
use Rattle.species_space.proofs.WalkSteps.{other_no_better}
use Rattle.species_space.proofs.walk.next_held.Goals as goal

pub may_be_better-requires-clause-valid : goal.may_be_better-requires-clause-valid
may_be_better-requires-clause-valid g c =
    subst (λ (t : Task). IsValid t.exercise) (sym c.requires.rests) c.requires.valid

pub may_be_better-requires-clause-number : goal.may_be_better-requires-clause-number
may_be_better-requires-clause-number g c =
    let i = c.args.node.now.state.newest.len in
    let within = subst (λ menu. c.args.hint < length menu) c.requires.menu.columns c.requires.held.0 in
    subst (λ (t : Task). c.args.hint < length (menu_of t.exercise i)) (sym c.requires.rests) within

pub returns-then-from-hint-clause-passed : goal.returns-then-from-hint-clause-passed
returns-then-from-hint-clause-passed g c = λ path at j le lt.
    let held = c.requires.held in
    let cut = c.requires.menu.cut in
    other_no_better c.args.exercise.now c.args.sheet.now c.args.node.now path at (columns_seen c.args.menu.now)
    c.args.hint j g.R.Rests.chained c.args.best c.args.before.now c.requires.menu.columns
    (c.requires.before _ at.state) (cut.holds held.1) cut.order cut.full held.0 held.2
    (omega (arith, lt, c.len.ensures)) (λ same. omega (arith, same, le, c.if-from-hint.true))

pub returns-then-not-may_be_better-clause-passed : goal.returns-then-not-may_be_better-clause-passed
returns-then-not-may_be_better-clause-passed g c = λ path at j le lt.
    let held = c.requires.held in
    let cut = c.requires.menu.cut in
    let hint = c.args.hint in
    let P : Task → Type 0 = λ t. (other : List ℕ) → IsNodeOf t.exercise t.sheet c.args.node.now other
    → IsNoBetter g.R.Rests.chained t.exercise t.sheet other c.args.best hint in
    let here : IsNoBetter g.R.Rests.chained c.args.exercise.now c.args.sheet.now path c.args.best hint =
    subst P c.requires.rests (OnFalse_at c.if-not-may_be_better.true c.may_be_better.ensures) path at in
    elim (cases_eq j hint) [
      | inl same ↦ subst
          (λ (n : ℕ). IsNoBetter g.R.Rests.chained c.args.exercise.now c.args.sheet.now path c.args.best n)
          (sym same) here
      | inr differ ↦ other_no_better c.args.exercise.now c.args.sheet.now c.args.node.now path at
          (columns_seen c.args.menu.now) hint j g.R.Rests.chained c.args.best c.args.before.now
          c.requires.menu.columns (c.requires.before _ at.state) (cut.holds held.1) cut.order cut.full held.0 held.2
          (omega (arith, lt, c.len-then-not-may_be_better.ensures)) differ
    ]

pub returns-clause-passed : goal.returns-clause-passed
returns-clause-passed g c = λ path at j le lt.
    let held = c.requires.held in
    let cut = c.requires.menu.cut in
    other_no_better c.args.exercise.now c.args.sheet.now c.args.node.now path at (columns_seen c.args.menu.now)
    c.args.hint j g.R.Rests.chained c.args.best c.args.before.now c.requires.menu.columns
    (c.requires.before _ at.state) (cut.holds held.1) cut.order cut.full held.0 held.2
    (omega (arith, lt, held.0)) (λ same. omega (arith, same, lt))

pub returns-clause-within : goal.returns-clause-within
returns-clause-within g c = omega (arith, c.requires.held.0)

pub returns-then-from-hint-clause-told : goal.returns-then-from-hint-clause-told
returns-then-from-hint-clause-told g c = λ lt. absurd (omega (arith, lt, c.len.ensures))

pub returns-then-not-may_be_better-clause-told : goal.returns-then-not-may_be_better-clause-told
returns-then-not-may_be_better-clause-told g c = λ lt.
    absurd (omega (arith, lt, c.len-then-not-may_be_better.ensures))

pub returns-clause-told : goal.returns-clause-told
returns-clause-told g c = λ lt.
    let held = c.requires.held in
    let col = slice_index_or (columns_seen c.args.menu.now) c.args.hint [] in
    record {
      kept = held_told c.args.exercise.now c.args.node.now.state col c.requires.inner
          (c.requires.menu.cut.holds held.1 c.args.hint [] lt);
      follows = λ p is. subst (λ (b : List Cell). ColumnFollows b col) (c.requires.before p is) held.2;
    }
