use Rattle.std.proofs.Common.{◌∷◌, Err, sym, ◌∙◌, ap}
use Rattle.smf_bytes.specs.Events.{Answers, followed_by, later_tracks, left_seen}
use Rattle.smf_bytes.proofs.EventLemmas.{events_more, events_fault}
use Rattle.smf_bytes.proofs.events.Events.step.Goals as goal

pub returns-in-Ok-clause-first : goal.returns-in-Ok-clause-first
returns-in-Ok-clause-first c =
    ap (λ (answers : Answers). followed_by answers (later_tracks c.args.self.now))
    (events_more (left_seen c.args.track) _ _ c.in-Ok.ensures.value)

pub returns-in-Err-clause-first : goal.returns-in-Err-clause-first
returns-in-Err-clause-first c =
    ap (λ (answers : Answers). followed_by answers (later_tracks c.args.self.now))
    (events_fault (left_seen c.args.track) c.in-Err.fault c.in-Err.ensures.value)
    ∙ ap (λ (answers : Answers). Err c.in-Err.fault ∷ answers) (sym c.stop.ensures.over)
