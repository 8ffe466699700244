use Rattle.std.proofs.Common.{sym, ◌∙◌}
use Rattle.std.proofs.lemmas.Bool.{not-true}
use Rattle.fux_judge.proofs.SoundLemmas.{none_left}
use Rattle.fux_judge.proofs.kept.left_of_told.Goals as goal

pub returns-then-opens_well-clause-kept : goal.returns-then-opens_well-clause-kept
returns-then-opens_well-clause-kept c = λ p after r.
    none_left p c.args.m.now after c.requires.nothing c.requires.told
    (not-true _ (sym (c.opens_well.ensures p after) ∙ c.if-opens_well.true)) r _ c.left_within_bars.ensures.value
