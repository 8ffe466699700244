use Rattle.std.proofs.Common.{◌∙◌, sym, ap, arith, get_or, reverse, take}
use Rattle.std.proofs.lemmas.List.{drop_all}
use Rattle.std.proofs.lemmas.Result.{err_from_is_err_and}
use Rattle.smf_score.specs.Placing.{note_placed, with_earlier}
use Rattle.smf_score.proofs.EachLemmas.{each_done, each_fails, each_next, fails_from}
use Rattle.smf_score.proofs.PlacingLemmas.{ended_more, notes_next, placed_as}
use Rattle.smf_score.proofs.placed.place_voice.Goals as goal

pub returns-in_err-placed-clause-value : goal.returns-in_err-placed-clause-value
returns-in_err-placed-clause-value c =
    let p = err_from_is_err_and c.from_residual.result c.from_residual.ensures.1 in
    let notes = c.args.notes.now in
    let division = c.args.division in
    let i = c.loop-note.note-index in
    let earlier = reverse (take i notes) in
    let note = get_or notes i _ in
    let fault = c.in_err-placed.field-0.0 in
    rw (p.1, p.2)
    (each_fails (note_placed division) (earlier, note) _ _ c.loop-note.places.items fault _ c.loop-note.invariant.read
    (notes_next notes i _ c.loop-note-test.true) (fails_from fault (note_placed division (earlier, note))
    (sym (placed_as division earlier note c.loop-note.ended c.loop-note.invariant.ended)
    ∙ sym c.in_err-placed.ensures.value)))

pub loop-note-preserved : goal.loop-note-preserved
loop-note-preserved c =
    let notes = c.args.notes.now in
    let division = c.args.division in
    let i = c.loop-note.note-index in
    let earlier = reverse (take i notes) in
    let note = get_or notes i _ in
    record {
      read = rw c.in_ok-push.ensures.items
          (each_next (note_placed division) (earlier, note) _ _ c.loop-note.places.items c.in_ok-placed.placed _
          c.loop-note.invariant.read (notes_next notes i _ c.loop-note-test.true)
          (c.in_ok-placed.ensures.value
          ∙ placed_as division earlier note c.loop-note.ended c.loop-note.invariant.ended));
      ended = ended_more division notes i _ c.loop-note.ended c.in_ok-placed.placed.end _ c.loop-note-test.true
          c.loop-note.invariant.ended c.in_ok-placed.ensures.end c.max-ended.ensures;
      count = omega (arith, c.loop-note.invariant.count, c.in_ok-push.ensures.len);
    }

pub returns-clause-value : goal.returns-clause-value
returns-clause-value c =
    each_done (note_placed c.args.division) _ c.loop-note.places.items _ c.loop-note.invariant.read
    (ap (with_earlier (reverse (take c.loop-note.note-index c.args.notes.now)))
    (drop_all c.loop-note.note-index c.args.notes.now c.loop-note-test.false))
