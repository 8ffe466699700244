use Rattle.std.proofs.Common.{◌∙◌, Err, Ok, ap, arith, length, refl, ◌-◌, ◌+◌}
use Rattle.std.proofs.lemmas.Result.{err_from_is_err_and}
use Rattle.smf_bytes.specs.Events.{track_then, tracks_in}
use Rattle.smf_bytes.proofs.EventLemmas.{tracks_more}
use Rattle.smf_bytes.proofs.TrackLemmas.{track_of, track_only}
use Rattle.smf_bytes.proofs.events.Events.begin.Goals as goal

pub returns-in_err-chunk-clause-fault : goal.returns-in_err-chunk-clause-fault
returns-in_err-chunk-clause-fault c =
    let s = c.args.self.now in
    let p = err_from_is_err_and c.from_residual.result c.from_residual.ensures.1 in
    rw (p.1, p.2) (tracks_more s.header.tracks s.begun s.size s.rest.now c.requires.counted
    ∙ ap (track_then s.begun s.size (tracks_in (s.header.tracks - (s.begun + 1)) (s.begun + 1) s.size))
    (track_only (length s.rest.now) s.size s.rest.now (Err _) (omega arith) c.in_err-chunk.ensures.value))

pub returns-clause-begun : goal.returns-clause-begun
returns-clause-begun c =
    let s = c.args.self.now in
    tracks_more s.header.tracks s.begun s.size s.rest.now c.requires.counted
    ∙ ap (track_then s.begun s.size (tracks_in (s.header.tracks - (s.begun + 1)) (s.begun + 1) s.size))
    (track_only (length s.rest.now) s.size s.rest.now (Ok (track_of _, _)) (omega arith) (refl, c.in_ok-chunk.ensures.value))
