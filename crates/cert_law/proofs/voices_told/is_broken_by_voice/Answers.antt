use Rattle.std.proofs.Common.{sym, ◌∙◌}
use Rattle.std.proofs.lemmas.Bool.{OnTrue_at, OnTrue_from}
use Rattle.fux_judge.proofs.VoiceBreaks.{told_newly}
use Rattle.cert_law.proofs.voices_told.is_broken_by_voice.Goals as goal

pub returns-then-is_told_of_some-clause-broken : goal.returns-then-is_told_of_some-clause-broken
returns-then-is_told_of_some-clause-broken c = λ p is on.
    OnTrue_at c.if-is_told_of_some.true c.is_told_of_some.ensures c.args.ex.now c.args.state.now c.requires.voices p
    is on

pub returns-clause-broken : goal.returns-clause-broken
returns-clause-broken c = OnTrue_from c.is_rule.result _ (λ h. λ p is on.
    told_newly c.args.ex.now p c.args.col.now.items on c.args.rule
    (sym (c.ask_voices-line.ensures.line p is on) ∙ OnTrue_at h c.is_rule.ensures))
