use Rattle.std.proofs.Common.{◌∙◌, sym}
use Rattle.smf_score.proofs.ValidLemmas.{ranges_more, ranges_over}
use Rattle.smf_score.proofs.ranges.ranges_of.Goals as goal

pub loop-v-preserved : goal.loop-v-preserved
loop-v-preserved c =
    rw (c.in_ok-push_range.ensures.ok, c.as_slice.ensures)
    (ranges_more c.args.cantus_voice c.loop-v.v c.args.voices.now c.loop-v.lines.items c.index-voices-v.result
    c.index-voices-v.result c.loop-v-test.true c.index-voices-v.is
    ∙ c.loop-v.invariant)

pub returns : goal.returns
returns c =
    sym (ranges_over c.args.cantus_voice c.loop-v.v c.args.voices.now c.loop-v.lines.items c.loop-v-test.false)
    ∙ c.loop-v.invariant
