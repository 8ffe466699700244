use Rattle.std.proofs.Common.{ℕ, [], slice_index_or, arith}
use Rattle.species_space.specs.Blocks.{StraysOrDies, columns_seen}
use Rattle.species_space.proofs.Passing.{passed_on}
use Rattle.species_space.proofs.walk.next_choice.Goals as goal

pub loop-k-init : goal.loop-k-init
loop-k-init c =
    let next = c.next_that_follows-k.ensures in
    record {
      onward = next.onward;
      within = next.within;
      follows = next.follows;
      passed = λ ex i skip j le lt follows. absurd (next.passed j le lt follows);
    }

pub returns-then-undead-k-clause-onward : goal.returns-then-undead-k-clause-onward
returns-then-undead-k-clause-onward c = c.loop-k.invariant.onward

pub returns-then-undead-k-clause-passed : goal.returns-then-undead-k-clause-passed
returns-then-undead-k-clause-passed c = c.loop-k.invariant.passed

pub next_that_follows-k-requires-in-loop-k-clause-within : goal.next_that_follows-k-requires-in-loop-k-clause-within
next_that_follows-k-requires-in-loop-k-clause-within c =
    let later = c.undead_from-undead.ensures.later c.if-undead-k.false in
    omega (arith, later.1, c.requires.bounded c.loop-k.k later.0)

pub loop-k-smaller : goal.loop-k-smaller
loop-k-smaller c =
    omega (
      arith,
      c.loop-k-test.true,
      c.len.ensures,
      c.if-undead-k.false,
      c.next_that_follows-k-in-loop-k.ensures.onward,
    )

pub loop-k-preserved : goal.loop-k-preserved
loop-k-preserved c =
    let menu = columns_seen c.args.menu.now in
    let k = c.loop-k.k in
    let next = c.next_that_follows-k-in-loop-k.ensures in
    let to = c.next_that_follows-k-in-loop-k.result in
    let later = c.undead_from-undead.ensures.later c.if-undead-k.false in
    record {
      onward = omega (arith, c.loop-k.invariant.onward, c.if-undead-k.false, next.onward);
      within = next.within;
      follows = next.follows;
      passed = λ ex i skip.
          let P : ℕ → Type 0 = λ j. StraysOrDies ex i c.args.before.now (slice_index_or menu j []) in
          passed_on P c.args.from k to (c.loop-k.invariant.passed ex i skip)
          (passed_on P k c.undead_from-undead.result to
          (λ j le lt follows. skip.dead k later.0 j le (omega (arith, lt, later.1)))
          (λ j le lt follows. absurd (next.passed j le lt follows)));
    }

pub returns-clause-within : goal.returns-clause-within
returns-clause-within c = c.loop-k.invariant.within

pub returns-clause-passed : goal.returns-clause-passed
returns-clause-passed c = c.loop-k.invariant.passed

pub returns-then-undead-k-clause-unskipped : goal.returns-then-undead-k-clause-unskipped
returns-then-undead-k-clause-unskipped c = λ lt there.
    omega (arith, c.undead_from-undead.ensures.here there, c.if-undead-k.true)

pub returns-clause-unskipped : goal.returns-clause-unskipped
returns-clause-unskipped c = λ lt. absurd (omega (arith, lt, c.loop-k-test.false, c.len.ensures))

pub returns-then-undead-k-clause-follows : goal.returns-then-undead-k-clause-follows
returns-then-undead-k-clause-follows c = c.loop-k.invariant.follows

pub returns-clause-follows : goal.returns-clause-follows
returns-clause-follows c = c.loop-k.invariant.follows
