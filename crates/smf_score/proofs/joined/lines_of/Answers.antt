use Rattle.std.proofs.Common.{sym, arith}
use Rattle.std.proofs.lemmas.List.FromFn.{map-range_with_len_more}
use Rattle.smf_score.specs.Joined.{line_of}
use Rattle.smf_score.proofs.joined.lines_of.Goals as goal

pub loop-v-preserved : goal.loop-v-preserved
loop-v-preserved c =
    let line = line_of c.args.lesson.now c.args.voices.now in
    rw c.in_ok-push.ensures.items
    (rw (c.loop-v.invariant, c.in_ok-line_of.ensures) (sym (map-range_with_len_more line 0 c.loop-v.v c.loop-v.v (omega arith))))
