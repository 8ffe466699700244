use Rattle.std.proofs.Common.{[], slice_index_or, arith}
use Rattle.fux_grid.specs.Columns.{ColumnFollows}
use Rattle.species_space.specs.Blocks.{columns_seen}
use Rattle.species_space.proofs.Passing.{hint_is_next, none_is_next, passed_on}
use Rattle.species_space.proofs.blocks.MenuView.next_by_hint.Goals as goal

pub returns : goal.returns
returns c =
    let cut = c.requires.cut in
    let held = c.is_held.ensures c.if-not-is_held.false in
    hint_is_next (columns_seen c.args.self.now) c.args.before.now c.args.from c.args.hint (cut.holds held.1) cut.order
    cut.full held.0 held.2 c.if-from-hint.false

pub returns-then-from-hint : goal.returns-then-from-hint
returns-then-from-hint c =
    let cut = c.requires.cut in
    let held = c.is_held.ensures c.if-not-is_held.false in
    none_is_next (columns_seen c.args.self.now) c.args.before.now c.args.from c.args.hint c.len.result
    (cut.holds held.1) cut.order cut.full held.0 held.2 c.if-from-hint.true c.requires.within c.len.ensures

pub returns-then-not-is_held : goal.returns-then-not-is_held
returns-then-not-is_held c =
    let next = c.next_in_blocks.ensures in
    let past = c.past_holds-start.ensures in
    record {
      onward = omega (arith, past.onward, next.onward);
      within = next.within;
      follows = next.follows;
      passed = passed_on (λ j. ColumnFollows c.args.before.now (slice_index_or (columns_seen c.args.self.now) j []) → ⊥)
          c.args.from c.past_holds-start.result c.next_in_blocks.result past.passed next.passed;
    }
