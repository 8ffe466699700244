use Rattle.smf_bytes.proofs.FileLemmas.{taken}
use Rattle.smf_bytes.proofs.events.Events.next.Goals as goal

pub returns-clause-first : goal.returns-clause-first
returns-clause-first c = taken c.args.self.now c.take.new.self c.take.result c.take.ensures.first
