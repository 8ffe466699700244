use Rattle.std.proofs.Common.{Ok, Err, refl}
use Rattle.std.proofs.lemmas.Result.{err_from_is_err_and}
use Rattle.smf_bytes.specs.Events.{file_seen}
use Rattle.smf_bytes.proofs.FileLemmas.{to_come_told}
use Rattle.smf_score.specs.Joining.{IsJoined, OfFile}
use Rattle.smf_score.proofs.JoiningLemmas.{reads_from}
use Rattle.smf_score.proofs.joining.join_smf.Goals as goal

pub returns-in_err-events-clause-value : goal.returns-in_err-events-clause-value
returns-in_err-events-clause-value c =
    let p = err_from_is_err_and c.from_residual.result c.from_residual.ensures.1 in
    let fault = c.in_err-events.field-0.0 in
    rw (p.1, p.2) (Err fault, (c.in_err-events.ensures.value (Err fault)).1 refl, refl)

pub returns-clause-value : goal.returns-clause-value
returns-clause-value c =
    let events = c.in_ok-events.events in
    let lesson = c.args.lesson.now in
    let manner = c.args.manner in
    reads_from (OfFile lesson manner (file_seen events)) (IsJoined lesson manner c.args.bytes.now)
    c.read_events.result
    (λ read h. (
      Ok (file_seen events),
      (c.in_ok-events.ensures.value (Ok (file_seen events))).1
          (refl, to_come_told events),
      h,
    )) c.read_events.ensures.value
