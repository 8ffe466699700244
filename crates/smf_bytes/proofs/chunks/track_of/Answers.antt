use Rattle.std.proofs.Common.{arith, rules}
use Rattle.std.proofs.lemmas.Result.{err_from_is_err_and}
use Rattle.smf_bytes.specs.Chunks.{chunk_seen}
use Rattle.smf_bytes.proofs.TrackLemmas.{chunk_row_is, chunk_shorter, fault_behind, found_here, no_chunk, none_left, track_behind}
use Rattle.smf_bytes.proofs.chunks.track_of.Goals as goal

pub returns-in_err-chunk-clause-value : goal.returns-in_err-chunk-clause-value
returns-in_err-chunk-clause-value c =
    let p = err_from_is_err_and c.from_residual.result c.from_residual.ensures.1 in
    rw (p.1, p.2) (c.loop-rest.invariant.lacks _ (no_chunk c.args.size c.loop-rest.rest.now _ c.in_err-chunk.ensures.value))

pub returns-then-chunk-eq-TRACK-clause-value : goal.returns-then-chunk-eq-TRACK-clause-value
returns-then-chunk-eq-TRACK-clause-value c =
    c.loop-rest.invariant.found _ _ (found_here c.loop-rest.rest.now _ (chunk_seen c.in_ok-chunk.chunk).0
    (chunk_row_is c.args.size c.loop-rest.rest.now _ _ c.in_ok-chunk.ensures.value) c.if-chunk-eq-TRACK.true)

pub loop-rest-smaller : goal.loop-rest-smaller
loop-rest-smaller c =
    omega (arith, chunk_shorter c.loop-rest.rest.now _ _ (chunk_row_is c.args.size c.loop-rest.rest.now _ _ c.in_ok-chunk.ensures.value))

pub loop-rest-preserved : goal.loop-rest-preserved
loop-rest-preserved c =
    let row =
    chunk_row_is c.args.size c.loop-rest.rest.now _ (chunk_seen c.in_ok-chunk.chunk).0 c.in_ok-chunk.ensures.value in
    record {
      found = λ body rest h. c.loop-rest.invariant.found body rest
          (track_behind c.loop-rest.rest.now _ body rest _ row c.if-chunk-eq-TRACK.false h);
      lacks = λ fault h. c.loop-rest.invariant.lacks fault
          (fault_behind c.args.size c.loop-rest.rest.now _ _ fault row c.if-chunk-eq-TRACK.false h);
      shorter = omega (arith, c.in_ok-chunk.ensures.shorter);
    }

pub returns-clause-value : goal.returns-clause-value
returns-clause-value c =
    c.loop-rest.invariant.lacks _ (none_left c.args.size c.loop-rest.rest.now (search rules))
