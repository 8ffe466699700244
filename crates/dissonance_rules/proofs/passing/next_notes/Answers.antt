use Rattle.std.proofs.Common.{◌+◌, ap, sym, ◌∙◌, arith}
use Rattle.rule_law.specs.After.{second_of}
use Rattle.rule_law.specs.Within.{notes_within}
use Rattle.dissonance_rules.proofs.PassingReadings.{no_second}
use Rattle.dissonance_rules.proofs.passing.next_notes.Goals as goal

pub returns-in-Some-clause-first : goal.returns-in-Some-clause-first
returns-in-Some-clause-first g c = λ s first shown from. c.in-Some.ensures.value s first shown (omega (arith, from))

pub returns-in-Some-clause-second : goal.returns-in-Some-clause-second
returns-in-Some-clause-second g c = λ s first shown from.
    c.note_within-second.ensures.value s first shown (omega (arith, from, c.in-Some.ensures.from))
    ∙ sym (ap second_of (c.in-Some.ensures.rest s first shown (omega (arith, from))))

pub returns-in-None-clause-first : goal.returns-in-None-clause-first
returns-in-None-clause-first g c = λ s first shown from. c.note_within-first.ensures.value s first shown (omega (arith, from))

pub returns-in-None-clause-second : goal.returns-in-None-clause-second
returns-in-None-clause-second g c = λ s first shown from.
    no_second (notes_within s c.args.end c.args.v (c.args.i + 1)) (c.in-None.ensures.value s first shown (omega (arith, from)))
