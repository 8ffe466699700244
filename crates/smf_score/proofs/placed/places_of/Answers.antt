use Rattle.std.proofs.Common.{◌≤◌, List, [], ◌∷◌, ap, arith, length, rules, sym}
use Rattle.std.proofs.lemmas.List.{nil_from_length}
use Rattle.std.proofs.lemmas.List.Elements.{All-append, All-cons, All-nil}
use Rattle.std.proofs.lemmas.Result.{err_from_is_err_and}
use Rattle.smf_score.specs.declared.placed.Placed.{Placed}
use Rattle.smf_score.specs.Placing.{voice_placed, voices_of}
use Rattle.smf_score.proofs.EachLemmas.{each_done, each_fails, each_next}
use Rattle.smf_score.proofs.PlacingLemmas.{voices_next}
use Rattle.smf_score.proofs.placed.places_of.Goals as goal

pub returns-in_err-voice-clause-value : goal.returns-in_err-voice-clause-value
returns-in_err-voice-clause-value c =
    let p = err_from_is_err_and c.from_residual.result c.from_residual.ensures.1 in
    rw (p.1, p.2)
    (each_fails (voice_placed c.args.division) c.split_at.result.0.now _ _ c.loop-first.voices.items
    c.in_err-voice.field-0.0 _ c.loop-first.invariant.read
    (voices_next c.loop-first.rest.now _ _ c.in-Some.others.now c.in-Some.first.now c.run_of.result
    c.in-Some.ensures.cases.0 c.run_of.ensures.value c.split_at.ensures.front c.split_at.ensures.back)
    c.in_err-voice.ensures.value)

abbrev HasOne : List Placed → Type 0
HasOne notes = 1 ≤ length notes

pub loop-first-preserved : goal.loop-first-preserved
loop-first-preserved c = record {
  read = rw (c.in_ok-push.ensures.items, c.new.ensures)
      (each_next (voice_placed c.args.division) c.split_at.result.0.now _ _ c.loop-first.voices.items
      c.in_ok-voice.voice.items _ c.loop-first.invariant.read
      (voices_next c.loop-first.rest.now _ _ c.in-Some.others.now c.in-Some.first.now c.run_of.result
      c.in-Some.ensures.cases.0 c.run_of.ensures.value c.split_at.ensures.front c.split_at.ensures.back)
      (sym c.in_ok-voice.ensures.value));
  notes = rw (c.in_ok-push.ensures.items, c.new.ensures)
      (All-append HasOne c.loop-first.voices.items (c.in_ok-voice.voice.items ∷ []) c.loop-first.invariant.notes
      (All-cons HasOne c.in_ok-voice.voice.items []
      (omega (arith, c.in_ok-voice.ensures.each, c.split_at.ensures.front_len)) (All-nil HasOne)));
  bounds = search rules;
}

pub returns-clause-value : goal.returns-clause-value
returns-clause-value c =
    each_done (voice_placed c.args.division) _ c.loop-first.voices.items _ c.loop-first.invariant.read
    (ap voices_of (nil_from_length c.loop-first.rest.now c.in_default.ensures.cases))
