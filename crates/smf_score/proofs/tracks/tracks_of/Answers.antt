use Rattle.std.proofs.Common.{List, [], ◌∷◌, ◌++◌, ◌∙◌, All, ap, append_assoc, rules, sym}
use Rattle.std.proofs.lemmas.List.Elements.{All-append, All-cons, All-nil}
use Rattle.smf_score.specs.declared.played.Played.{Played}
use Rattle.smf_score.specs.Played.{IsPlayed}
use Rattle.smf_score.proofs.PlacingLemmas.{voices_next}
use Rattle.smf_score.proofs.tracks.tracks_of.Goals as goal

abbrev AreBounded : List Played → Type 0
AreBounded notes = All IsPlayed notes

pub loop-first-preserved : goal.loop-first-preserved
loop-first-preserved c =
    let own = c.in_ok-track.track.items in
    let next =
    voices_next c.loop-first.rest.now own _ c.in-Some.others.now c.in-Some.first.now c.run_of.result
    c.in-Some.ensures.cases.0 c.run_of.ensures.value (c.in_ok-track.ensures.value ∙ c.split_at.ensures.front)
    c.split_at.ensures.back in
    record {
      read = rw (c.in_ok-push.ensures.items, c.new.ensures)
          (append_assoc c.loop-first.tracks.items (own ∷ []) _
          ∙ ap (λ (vs : List (List Played)). c.loop-first.tracks.items ++ vs) (sym next)
          ∙ c.loop-first.invariant.read);
      played = rw (c.in_ok-push.ensures.items, c.new.ensures)
          (All-append AreBounded c.loop-first.tracks.items (own ∷ []) c.loop-first.invariant.played
          (All-cons AreBounded own [] c.in_ok-track.ensures.played (All-nil AreBounded)));
      left = search rules;
    }
