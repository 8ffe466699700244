use Rattle.smf_bytes.specs.Events.{to_come}
use Rattle.smf_bytes.proofs.FileLemmas.{to_come_told}
use Rattle.smf_score.proofs.strokes.next_event.Goals as goal

pub returns-clause-first : goal.returns-clause-first
returns-clause-first c =
    let old = c.args.events.now in
    let new = c.next.new.self in
    c.next.ensures.first (to_come old) (to_come new) (to_come_told old) (to_come_told new)
