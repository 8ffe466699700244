use Rattle.std.proofs.Common.{arith}
use Rattle.cert_text.proofs.NameLemmas.{no-name}
use Rattle.cert_text.proofs.scan.rest_or_hold.Goals as goal

pub returns-then-byte-eq114-clause-none : goal.returns-then-byte-eq114-clause-none
returns-then-byte-eq114-clause-none c = λ none.
    no-name c.args.i c.args.byte c.args.before (λ rest. c.rest.ensures.none none)
    (λ hold. absurd (omega (arith, hold, c.if-byte-eq114.true)))

pub returns-then-byte-eq95-clause-none : goal.returns-then-byte-eq95-clause-none
returns-then-byte-eq95-clause-none c = λ none.
    no-name c.args.i c.args.byte c.args.before (λ rest. absurd (omega (arith, rest, c.if-byte-eq95.true)))
    (λ hold. c.hold.ensures.none none)

pub returns-clause-none : goal.returns-clause-none
returns-clause-none c = λ none.
    no-name c.args.i c.args.byte c.args.before (λ rest. absurd (c.if-byte-eq114.false rest))
    (λ hold. absurd (c.if-byte-eq95.false hold))
