use Rattle.std.proofs.Common.{refl, ◌∙◌}
use Rattle.fux_judge.specs.Steps.{breaks_late}
use Rattle.fux_judge.proofs.LateLemmas.{all_late, any_asked}
use Rattle.fux_judge.proofs.late.settles_late_break.Goals as goal

pub asks_some-requires-clause-rules : goal.asks_some-requires-clause-rules
asks_some-requires-clause-rules c = all_late

pub returns : goal.returns
returns c = λ p col come.
    c.asks_some.ensures (breaks_late c.args.ex.now p col)
    (record { prefix = p; column = col; come = come; same = λ rule. refl })
    ∙ any_asked (breaks_late c.args.ex.now p col)
