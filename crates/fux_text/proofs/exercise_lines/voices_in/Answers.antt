use Rattle.std.proofs.Common.{◌≡◌, length, true, false, sym, ap, ◌∙◌, arith}
use Rattle.fux_text.specs.Lines.{has_voice}
use Rattle.fux_text.proofs.CountSteps.{kept-next, left_out-next}
use Rattle.fux_text.proofs.exercise_lines.voices_in.Goals as goal
use Rattle.fux_text.proofs.exercise_lines.voices_in.Goals.{then-has_voice, else-has_voice}

pub loop-v-preserved : goal.loop-v-preserved
loop-v-preserved c =
    let p = has_voice c.args.set.bits in
    elim c.if-has_voice.branch [
      | then-has_voice w ↦
          let test : p c.loop-v.v ≡ true = sym c.has_voice.ensures ∙ w.if-has_voice.true in (
            omega (arith, w.push.ensures.len, ap (λ voices. length voices.items) w.voices-is, c.loop-v.invariant.0),
            kept-next p c.loop-v.voices.items c.if-has_voice.voices.items _ c.loop-v.v 4 (omega arith)
                (ap (λ voices. voices.items) w.voices-is ∙ w.push.ensures.items) test c.loop-v.invariant.1,
          )
      | else-has_voice w ↦
          let test : p c.loop-v.v ≡ false = sym c.has_voice.ensures ∙ w.if-has_voice.false in (
            omega (arith, ap (λ voices. length voices.items) w.voices-is, c.loop-v.invariant.0),
            left_out-next p c.loop-v.voices.items c.if-has_voice.voices.items _ c.loop-v.v 4 (omega arith)
                (ap (λ voices. voices.items) w.voices-is) test c.loop-v.invariant.1,
          )
    ]
