use Rattle.std.proofs.Common.{◌≡◌, ℕ, suc, ◌+◌, ◌<◌, List, ◌∷◌, ◌∙◌, add-one, ap, drop, get_or, length, subst, sym}
use Rattle.std.proofs.lemmas.List.{drop_all}
use Rattle.std.proofs.lemmas.Result.{err_from_is_err_and}
use Rattle.std.proofs.Math.Seq.{drop-cons}
use Rattle.smf_score.specs.declared.played.Played.{Played}
use Rattle.smf_score.specs.Faults.{Fails}
use Rattle.smf_score.specs.Placing.{voice_placed}
use Rattle.smf_score.proofs.EachLemmas.{each_done, each_fails, each_next}
use Rattle.smf_score.proofs.staves.place_all.Goals as goal

-- the next voice, and those behind it
voices_next : (voices : List (List Played)) (i : ℕ) (voice : List Played) → i < length voices
    → voice ≡ get_or voices i voice → drop i voices ≡ voice ∷ drop (i + 1) voices
voices_next voices i voice within is =
    rw (add-one i)
    (drop-cons voices i voice within ∙ ap (λ (own : List Played). own ∷ drop (suc i) voices) (sym is))

pub returns-in_err-notes : goal.returns-in_err-notes
returns-in_err-notes c =
    let p = err_from_is_err_and c.from_residual.result c.from_residual.ensures.1 in
    let placed = voice_placed c.args.division in
    let voice = c.voice-item.result in
    let fault = c.in_err-notes.field-0.0 in
    rw (p.1, p.2)
    (each_fails placed voice _ _ c.loop-voice.placed.items fault _ c.loop-voice.invariant
    (voices_next c.args.voices.now c.loop-voice.voice-index voice c.loop-voice-test.true c.voice-item.is)
    (subst (λ (notes : List Played). Fails fault (placed notes)) c.as_slice.ensures c.in_err-notes.ensures.value))

pub loop-voice-preserved : goal.loop-voice-preserved
loop-voice-preserved c =
    let placed = voice_placed c.args.division in
    let voice = c.voice-item.result in
    rw (c.in_ok-push.ensures.items, c.new.ensures)
    (each_next placed voice _ _ c.loop-voice.placed.items c.in_ok-notes.notes.items _ c.loop-voice.invariant
    (voices_next c.args.voices.now c.loop-voice.voice-index voice c.loop-voice-test.true c.voice-item.is)
    (sym c.in_ok-notes.ensures.value ∙ ap placed c.as_slice.ensures))

pub returns : goal.returns
returns c =
    each_done (voice_placed c.args.division) _ c.loop-voice.placed.items _ c.loop-voice.invariant
    (drop_all c.loop-voice.voice-index c.args.voices.now c.loop-voice-test.false)
