use Rattle.std.proofs.Common.{sym, ◌∙◌, arith}
use Rattle.dissonance_rules.proofs.Closings.{beyond, unpaired}
use Rattle.dissonance_rules.proofs.closing.breaks_told.Goals as goal

pub returns-in_default : goal.returns-in_default
returns-in_default c = λ p col are kept on.
    unpaired c.args.rule c.args.ex.now c.args.voices.bits p col c.args.place (sym c.in_default.is ∙ c.pair_of.ensures)

pub returns-then-w-ex : goal.returns-then-w-ex
returns-then-w-ex c = λ p col are kept on.
    beyond c.args.rule c.args.ex.now c.args.voices.bits p col c.args.place c.in-Some.v c.in-Some.w c.in-Some.ensures
    (omega (arith, c.if-w-ex.true))

pub returns : goal.returns
returns c = λ p col are kept on. c.breaks_two.ensures c.args.voices.bits c.in-Some.ensures p col are kept on
