use Rattle.std.proofs.Common.{◌≡◌, ◌∙◌, None, arith, slice_get, sym}
use Rattle.priced_paths.proofs.Listing.{all_listed, counted_first, listed_first, listed_more, past_end, workable}
use Rattle.priced_paths.proofs.states.states_of.Goals as goal

pub loop-at-init : goal.loop-at-init
loop-at-init g c = record {
  listed = listed_first _ _ _ _ c.in_ok-states.states.keys c.in_ok-states.ensures;
  counted = counted_first _ _ _ c.in_ok-states.states.keys;
}

pub returns-clause-states : goal.returns-clause-states
returns-clause-states g c =
    all_listed _ _ _ _ c.loop-at.at c.loop-at.tally c.loop-at.states.keys c.loop-at.invariant.listed c.loop-at.invariant.counted
    (omega (arith, c.loop-at-test.false, c.loop-at.invariant.listed.few))

pub returns-in_default-clause-states : goal.returns-in_default-clause-states
returns-in_default-clause-states g c =
    let none : slice_get c.loop-at.states.keys c.loop-at.at ≡ None =
    sym c.get_index.ensures.key ∙ sym c.copied.ensures ∙ c.in_default.is in
    all_listed _ _ _ _ c.loop-at.at c.loop-at.tally c.loop-at.states.keys c.loop-at.invariant.listed c.loop-at.invariant.counted
    (past_end c.loop-at.states.keys c.loop-at.at none)

pub work_state-requires-clause-workable : goal.work_state-requires-clause-workable
work_state-requires-clause-workable g c =
    workable _ _ _ _ c.loop-at.at c.in-Some.state c.loop-at.states.keys c.loop-at.invariant.listed
    (sym c.get_index.ensures.key ∙ sym c.in-Some.ensures)

pub loop-at-preserved : goal.loop-at-preserved
loop-at-preserved g c = record {
  listed = listed_more _ _ _ _ c.loop-at.at c.in-Some.state c.loop-at.states.keys c.work_state.new.states.keys
      c.loop-at.invariant.listed (sym c.get_index.ensures.key ∙ sym c.in-Some.ensures) c.in_ok-tally.ensures.worked;
  counted = c.in_ok-tally.ensures.counted;
}
