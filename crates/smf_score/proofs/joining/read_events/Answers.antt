use Rattle.std.proofs.Common.{◌*◌, List, sym, ap, subst, ◌∙◌}
use Rattle.std.proofs.lemmas.Result.{err_from_is_err_and}
use Rattle.smf_bytes.specs.Events.{file_seen}
use Rattle.smf_score.specs.declared.played.Played.{Played}
use Rattle.smf_score.specs.Order.{IsInOrder}
use Rattle.smf_score.specs.Played.{notes_in}
use Rattle.smf_score.specs.Strokes.{strokes_in}
use Rattle.smf_score.specs.JoinFaults.{Gives}
use Rattle.smf_score.specs.Meters.{meter_in}
use Rattle.smf_score.specs.Joining.{OfFile, joined_notes}
use Rattle.smf_score.proofs.JoiningLemmas.{is_of_file, reads, reads_fault, no_strokes}
use Rattle.smf_score.proofs.joining.read_events.Goals as goal

pub returns-in_err-heard-clause-value : goal.returns-in_err-heard-clause-value
returns-in_err-heard-clause-value c =
    let p = err_from_is_err_and c.from_residual.result c.from_residual.ensures.1 in
    let file = file_seen c.args.events.now in
    let fault = c.in_err-heard.field-0.0 in
    rw (p.1, p.2)
    (reads_fault (OfFile c.args.lesson.now c.args.manner file) fault (strokes_in file.answers)
    c.in_err-heard.ensures.strokes (no_strokes c.args.lesson.now c.args.manner file fault))

pub returns-clause-value : goal.returns-clause-value
returns-clause-value c =
    let lesson = c.args.lesson.now in
    let manner = c.args.manner in
    let file = file_seen c.args.events.now in
    let strokes = c.in_ok-heard.heard.strokes.items in
    let wholes = c.in_ok-wholes.wholes in
    let division = file.header.division in
    let notes = c.put_in_order.new.notes.items in
    let meter =
    c.in_ok-wholes.ensures.value
    ∙ ap (λ d. meter_in d c.deref.result.now) c.division-division.ensures
    ∙ ap (meter_in division) (c.deref.ensures.value ∙ c.in_ok-heard.ensures.signatures) in
    let order = subst (λ (ns : List Played). IsInOrder ns notes)
    (c.in_ok-notes.ensures.value
    ∙ ap (notes_in (record { format = c.format.result; top_first = manner.top_first })) c.deref-2.ensures.value
    ∙ ap (λ f. notes_in (record { format = f; top_first = manner.top_first }) strokes) c.format.ensures)
    c.in_ok-put_in_order.ensures.order in
    let same =
    ap (λ d. joined_notes lesson manner.legato (wholes * d) c.deref-3.result.now) (c.from.ensures ∙ c.division-division.ensures)
    ∙ ap (joined_notes lesson manner.legato (wholes * division)) c.deref-3.ensures.value in
    reads (OfFile lesson manner file) c.read_notes.result (joined_notes lesson manner.legato (wholes * division) notes)
    (subst (Gives c.read_notes.result) same c.read_notes.ensures.value)
    (is_of_file lesson manner file strokes wholes notes c.in_ok-heard.ensures.strokes (sym meter) order)
