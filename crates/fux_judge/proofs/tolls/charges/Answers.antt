use Rattle.fux_judge.proofs.ChargeLemmas.{charged_by_voices}
use Rattle.fux_judge.proofs.tolls.charges.Goals as goal

pub returns-clause-value : goal.returns-clause-value
returns-clause-value c = λ p after.
    charged_by_voices c.args.m.now.exercise.now c.args.sheet.now p c.args.m.now.column.now _ _ _ _ _
    (c.charge_of_voice.ensures.value p after) (c.charge_of_voice-2.ensures.value p after)
    (c.charge_of_voice-3.ensures.value p after) (c.charge_of_voice-4.ensures.value p after)
    (c.charge.ensures.value p after)
