use Rattle.std.proofs.Common.{sym, ◌∙◌}
use Rattle.cert_text.proofs.NumberLemmas.{number-ends, number-more, number-stops}
use Rattle.cert_text.proofs.scan.number_line.Goals as goal

pub returns-in_default-digit_after-clause-err : goal.returns-in_default-digit_after-clause-err
returns-in_default-digit_after-clause-err c =
    number-stops c.loop-i.number c.args.bytes.now c.loop-i.i c.loop-i-test.true c.loop-i.invariant
    (sym c.digit_after.ensures ∙ c.in_default-digit_after.is) (c.ended.ensures.none c.in_default.is)

pub loop-i-preserved : goal.loop-i-preserved
loop-i-preserved c =
    number-more c.loop-i.number c.args.bytes.now c.loop-i.i c.in-Some-digit_after.longer c.loop-i-test.true
    c.loop-i.invariant (sym c.digit_after.ensures ∙ c.in-Some-digit_after.is)

pub returns-clause-err : goal.returns-clause-err
returns-clause-err c =
    number-ends c.loop-i.number c.args.bytes.now c.loop-i.i c.loop-i-test.false c.loop-i.invariant
