use Rattle.std.proofs.Common.{◌==◌, not, string_bytes, arith, rules}
use Rattle.fux_text.specs.Lines.{sing_text}
use Rattle.fux_text.proofs.CountSteps.{kept_written-next}
use Rattle.fux_text.proofs.note_text.put_setting.Goals as goal

pub loop-v-preserved : goal.loop-v-preserved
loop-v-preserved c =
    kept_written-next (λ v. sing_text v c.args.score.now.columns) (λ v. not (v == c.args.ex.now.cantus_voice))
    (string_bytes c.loop-v.out) (string_bytes c.put_free.new.out) _ c.loop-v.v c.args.ex.now.voices (omega arith)
    (search rules) c.loop-v.invariant
