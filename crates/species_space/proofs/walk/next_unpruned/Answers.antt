use Rattle.std.proofs.Common.{ℕ, ◌<◌, List, [], length, slice_index_or, ap, ◌∙◌, subst, arith}
use Rattle.fux_grid.specs.declared.cell.Cell.{Cell}
use Rattle.fux_grid.specs.Columns.{ColumnFollows}
use Rattle.fux_grid.proofs.MenuLemmas.{menu_of-full}
use Rattle.species_space.specs.Blocks.{columns_seen}
use Rattle.species_space.specs.Paths.{IsNoBetter}
use Rattle.species_space.proofs.Passing.{passed_on}
use Rattle.species_space.proofs.Fair.{alike_fair, first_fair}
use Rattle.species_space.proofs.WalkSteps.{column_of_menu, stray_no_better}
use Rattle.species_space.proofs.walk.next_unpruned.Goals as goal

pub next_held-requires-clause-before : goal.next_held-requires-clause-before
next_held-requires-clause-before g c = c.before-before.ensures

pub next_held-requires-clause-held : goal.next_held-requires-clause-held
next_held-requires-clause-held g c = c.goes_on.ensures.held c.if-goes_on.true

pub next_held-requires-clause-inner : goal.next_held-requires-clause-inner
next_held-requires-clause-inner g c = c.goes_on.ensures.inner c.if-goes_on.true

pub loop-k-init : goal.loop-k-init
loop-k-init g c =
    let ex = c.args.exercise.now in
    let sheet = c.args.sheet.now in
    let node = c.args.node.now in
    let menu = columns_seen c.args.menu.now in
    let next = c.next_choice-k.ensures in
    record {
      onward = next.onward;
      within = next.within;
      told = first_fair ex node.state menu c.args.from c.alike_before-tried.result c.next_choice-k.result
          c.requires.valid.most_voices
          (λ j e.
          ap (λ cols. length (slice_index_or cols j [])) c.requires.menu.columns
          ∙ menu_of-full ex node.state.newest.len j []
          (subst (λ cols. j < length cols) c.requires.menu.columns (omega (arith, e, c.requires.within))))
          c.alike_before-tried.ensures.none c.alike_before-tried.ensures.alike
          (λ j e. (c.requires.before j e).kept.fair);
      follows = next.follows;
      unskipped = next.unskipped;
      passed = λ path at j le lt.
          stray_no_better ex sheet node path at j g.R.Rests.chained c.args.best c.before-before.result.now
          (slice_index_or menu j [])
          (c.before-before.ensures _ at.state) (column_of_menu ex sheet node path at menu j c.requires.menu.columns)
          (next.passed ex node.state.newest.len c.requires.menu.skip.skip j le lt);
    }

pub returns-in_default-clause-onward : goal.returns-in_default-clause-onward
returns-in_default-clause-onward g c = c.loop-k.invariant.onward

pub returns-in_default-clause-within : goal.returns-in_default-clause-within
returns-in_default-clause-within g c = c.loop-k.invariant.within

pub returns-in_default-clause-passed : goal.returns-in_default-clause-passed
returns-in_default-clause-passed g c = c.loop-k.invariant.passed

pub loop-k-smaller : goal.loop-k-smaller
loop-k-smaller g c =
    omega (
      arith,
      c.loop-k-test.true,
      c.len.ensures,
      c.in-Some.ensures.onward,
      c.in-Some.end-is,
      c.next_choice-k-in-loop-k.ensures.onward,
    )

pub loop-k-preserved : goal.loop-k-preserved
loop-k-preserved g c =
    let ex = c.args.exercise.now in
    let sheet = c.args.sheet.now in
    let node = c.args.node.now in
    let menu = columns_seen c.args.menu.now in
    let k = c.loop-k.k in
    let end = c.in-Some.end in
    let next = c.next_choice-k-in-loop-k.ensures in
    let to = c.next_choice-k-in-loop-k.result in
    record {
      onward = omega (arith, c.loop-k.invariant.onward, c.in-Some.ensures.onward, c.in-Some.end-is, next.onward);
      within = next.within;
      told = alike_fair ex node.state (slice_index_or menu k []) (slice_index_or menu to []) _ _ _
          (ap (λ cols. length (slice_index_or cols k [])) c.requires.menu.columns
          ∙ menu_of-full ex node.state.newest.len k []
          (subst (λ cols. k < length cols) c.requires.menu.columns (omega (arith, c.loop-k-test.true, c.len.ensures))))
          c.lowest_alike-tried.ensures.alike c.in-Some.ensures.sound
          (λ v lt there. (lt, omega (arith, lt, c.lowest_alike-tried.ensures.few, c.in-Some.sound-is)));
      follows = next.follows;
      unskipped = next.unskipped;
      passed = λ path at.
          let P : ℕ → Type 0 = λ j. IsNoBetter g.R.Rests.chained ex sheet path c.args.best j in
          passed_on P c.args.from k to (c.loop-k.invariant.passed path at)
          (passed_on P k end to
          (λ j le lt. c.in-Some.ensures.passed path at j le (omega (arith, lt, c.in-Some.end-is)))
          (λ j le lt.
          stray_no_better ex sheet node path at j g.R.Rests.chained c.args.best c.before-before.result.now
          (slice_index_or menu j [])
          (c.before-before.ensures _ at.state) (column_of_menu ex sheet node path at menu j c.requires.menu.columns)
          (next.passed ex node.state.newest.len c.requires.menu.skip.skip j le lt)));
    }

pub returns-clause-onward : goal.returns-clause-onward
returns-clause-onward g c = c.loop-k.invariant.onward

pub returns-clause-within : goal.returns-clause-within
returns-clause-within g c = c.loop-k.invariant.within

pub returns-clause-passed : goal.returns-clause-passed
returns-clause-passed g c = c.loop-k.invariant.passed

pub returns-in_default-clause-told : goal.returns-in_default-clause-told
returns-in_default-clause-told g c = λ lt.
    let col = slice_index_or (columns_seen c.args.menu.now) c.loop-k.k [] in
    record {
      kept = record {
        fair = c.in_default.ensures.fair;
        sound = c.requires.menu.skip.sound c.loop-k.k lt (c.loop-k.invariant.unskipped lt);
      };
      follows = λ p is.
          subst (λ (b : List Cell). ColumnFollows b col) (c.before-before.ensures p is)
          (c.loop-k.invariant.follows lt);
    }

pub returns-clause-told : goal.returns-clause-told
returns-clause-told g c = λ lt. absurd (omega (arith, lt, c.loop-k-test.false, c.len.ensures))
