use Rattle.std.proofs.Common.{◌≡◌, ◌+◌, ℕ, inr, ap, sym, ◌∙◌, subst, arith}
use Rattle.std.proofs.lemmas.Bool.{OnTrue_at}
use Rattle.std.proofs.lemmas.List.{take_all}
use Rattle.rule_law.specs.Quiet.{is_quiet}
use Rattle.fux_judge.specs.Penalties.{newly_paid}
use Rattle.fux_judge.specs.Pruning.{IsFairWithin}
use Rattle.fux_judge.proofs.ChargeLemmas.{one_voice_more, reached, settles_all, settles_first}
use Rattle.fux_judge.proofs.FairLemmas.{all_fair, quiet_fair, fair_more}
use Rattle.fux_judge.proofs.pruning.pruned_within.Goals as goal

pub overflow_add-least : goal.overflow_add-least
overflow_add-least c = omega (arith, c.charge_for-charge.ensures.bound)

pub loop-voice-init : goal.loop-voice-init
loop-voice-init c = record {
  least = λ p is. omega arith;
  fair = λ told nothing p is v lt. absurd (omega (arith, lt));
  small = omega arith;
}

pub loop-voice-preserved : goal.loop-voice-preserved
loop-voice-preserved c = record {
  least = λ p is.
      one_voice_more c.args.ex.now c.args.sheet.now p c.args.col.now.items c.loop-voice.voice _ _
      (c.loop-voice.invariant.least p is) (c.charge_for-charge.ensures.value p is);
  fair = λ told.
      fair_more c.args.ex.now c.args.state.now c.args.col.now.items c.loop-voice.voice c.args.tried told
      (c.loop-voice.invariant.fair told) c.if-breaks_untried.ensures.fair;
  small = omega (arith, c.charge_for-charge.ensures.bound);
}

pub costs_too_much-requires-clause-little : goal.costs_too_much-requires-clause-little
costs_too_much-requires-clause-little c = omega arith

pub returns-then-reaches-clause-pruned : goal.returns-then-reaches-clause-pruned
returns-then-reaches-clause-pruned c = λ p is other long same.
    let least = one_voice_more c.args.ex.now c.args.sheet.now p c.args.col.now.items c.loop-voice.voice _ _
    (c.loop-voice.invariant.least p is) (c.charge_for-charge.ensures.value p is) in
    let settled = settles_first c.args.ex.now c.args.sheet.now p c.args.col.now.items other (c.loop-voice.voice + 1)
    (omega arith) same in
    inr (reached c.args.limit (λ (most : ℕ) h. omega (arith, least, settled))
    (OnTrue_at c.if-reaches.true c.reaches.ensures))

pub returns-then-costs_too_much-clause-pruned : goal.returns-then-costs_too_much-clause-pruned
returns-then-costs_too_much-clause-pruned c = λ p is other long same.
    let its : other ≡ c.args.col.now.items =
    sym (take_all c.args.ex.now.voices other (omega arith)) ∙ same
    ∙ take_all c.args.ex.now.voices c.args.col.now.items (omega arith) in
    let least = c.loop-voice.invariant.least p is in
    let settled = settles_all c.args.ex.now c.args.sheet.now p c.args.col.now.items c.loop-voice.voice (omega arith) in
    inr (reached c.args.limit
    (λ (most : ℕ) h. omega (arith, h p is, least, settled, ap (newly_paid c.args.ex.now c.args.sheet.now p) its))
    (OnTrue_at c.if-costs_too_much.true c.costs_too_much.ensures))

pub returns-then-is_quiet-clause-fair : goal.returns-then-is_quiet-clause-fair
returns-then-is_quiet-clause-fair c = λ told.
    quiet_fair 4 c.args.state.now.newest.len c.args.ex.now c.args.state.now c.args.col.now.items
    (ap (is_quiet c.args.state.now.newest.len) (sym c.as_slice.ensures.value) ∙ sym c.if-is_quiet.ensures)

pub returns-then-reaches-clause-sound : goal.returns-then-reaches-clause-sound
returns-then-reaches-clause-sound c = λ told.
    subst (λ (n : ℕ). IsFairWithin n c.args.ex.now c.args.state.now c.args.col.now.items) (omega arith)
    (c.loop-voice.invariant.fair told)

pub returns-then-breaks_untried-clause-sound : goal.returns-then-breaks_untried-clause-sound
returns-then-breaks_untried-clause-sound c = λ told.
    subst (λ (n : ℕ). IsFairWithin n c.args.ex.now c.args.state.now c.args.col.now.items) (omega arith)
    (c.loop-voice.invariant.fair told)

pub returns-then-costs_too_much-clause-sound : goal.returns-then-costs_too_much-clause-sound
returns-then-costs_too_much-clause-sound c = λ told nothing p is v lt.
    c.loop-voice.invariant.fair told nothing p is v (omega (arith, lt))

pub returns-clause-fair : goal.returns-clause-fair
returns-clause-fair c = λ told.
    all_fair c.args.ex.now c.args.state.now c.args.col.now.items c.loop-voice.voice (omega arith)
    (c.loop-voice.invariant.fair told)
