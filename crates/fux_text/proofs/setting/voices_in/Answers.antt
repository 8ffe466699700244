use Rattle.std.proofs.lemmas.Result.{err_from_is_err_and}
use Rattle.text_lines.specs.Lines.{lines_of}
use Rattle.fux_text.specs.Fitting.{asks}
use Rattle.fux_text.proofs.VoiceLoops.{voices-more, voices-fail, voices-all}
use Rattle.fux_text.proofs.setting.voices_in.Goals as goal

pub returns-in_err-cells : goal.returns-in_err-cells
returns-in_err-cells c =
    let p = err_from_is_err_and c.from_residual.result c.from_residual.ensures.1 in
    rw (p.1, p.2)
    (voices-fail c.in_err-cells.field-0.0 (asks c.args.asked c.args.ex.now) c.args.ex.now c.loop-v.v _
    c.loop-v.lines.items (lines_of c.loop-v.rest) _ c.loop-v-test.true c.in_err-cells.ensures c.loop-v.invariant)

pub loop-v-preserved : goal.loop-v-preserved
loop-v-preserved c =
    rw c.in_ok-push.ensures.items
    (voices-more (asks c.args.asked c.args.ex.now) c.args.ex.now c.loop-v.v c.args.ex.now.voices c.loop-v.lines.items
    (lines_of c.loop-v.rest) (lines_of c.in_ok-cells.behind) c.in_ok-cells.cells _ c.loop-v-test.true
    c.in_ok-cells.ensures c.loop-v.invariant)

pub returns : goal.returns
returns c =
    voices-all (asks c.args.asked c.args.ex.now) c.args.ex.now c.loop-v.v c.args.ex.now.voices c.loop-v.lines.items
    (lines_of c.loop-v.rest) _ c.loop-v-test.false c.loop-v.invariant
