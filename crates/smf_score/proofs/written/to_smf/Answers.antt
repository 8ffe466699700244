use Rattle.std.proofs.Common.{◌∙◌}
use Rattle.smf_score.proofs.LineLemmas.{tracks_more}
use Rattle.smf_score.proofs.written.to_smf.Goals as goal

pub loop-v-preserved : goal.loop-v-preserved
loop-v-preserved c =
    rw (c.in_ok-push_chunk.ensures.ok, c.deref-in-loop-v.ensures.value, c.in_ok-bytes.ensures.bytes, c.deref.ensures.value, c.in_ok-cells.ensures)
    (tracks_more c.args.score.now.columns c.loop-v.v c.args.ex.now.voices c.loop-v.out.items c.loop-v-test.true
    ∙ c.loop-v.invariant)
