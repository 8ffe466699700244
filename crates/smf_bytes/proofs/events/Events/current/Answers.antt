use Rattle.std.proofs.Common.{◌≡◌, [], arith}
use Rattle.smf_bytes.specs.Events.{to_come}
use Rattle.smf_bytes.proofs.EventLemmas.{tracks_over}
use Rattle.smf_bytes.proofs.events.Events.current.Goals as goal

pub returns-then-self-clause-none : goal.returns-then-self-clause-none
returns-then-self-clause-none c =
    let s = c.args.self.now in
    let over : to_come s ≡ [] = rw c.in_default.is (tracks_over s.header.tracks s.begun s.size s.rest.now (omega arith))
    in
    (over, over)
