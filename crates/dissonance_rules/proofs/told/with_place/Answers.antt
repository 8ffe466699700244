use Rattle.std.proofs.Common.{arith}
use Rattle.dissonance_rules.proofs.told.with_place.Goals as goal

pub returns-then-places-eq0-clause-kept : goal.returns-then-places-eq0-clause-kept
returns-then-places-eq0-clause-kept c = λ i among. absurd (omega (arith, among.from, among.to, c.if-places-eq0.true))

pub returns-then-places-eq0-clause-new : goal.returns-then-places-eq0-clause-new
returns-then-places-eq0-clause-new c = record { from = omega arith; to = omega arith }

pub returns-clause-from : goal.returns-clause-from
returns-clause-from c = λ first before here. omega (arith, c.min-first.ensures, before, here)

pub returns-clause-to : goal.returns-clause-to
returns-clause-to c = λ end before here. omega (arith, c.min-first.ensures, c.max-end.ensures, before, here)

pub returns-clause-kept : goal.returns-clause-kept
returns-clause-kept c = λ i among. record {
  from = omega (arith, among.from, c.min-first.ensures);
  to = omega (arith, among.from, among.to, c.min-first.ensures, c.max-end.ensures);
}

pub returns-clause-new : goal.returns-clause-new
returns-clause-new c = record {
  from = omega (arith, c.min-first.ensures);
  to = omega (arith, c.min-first.ensures, c.max-end.ensures);
}
