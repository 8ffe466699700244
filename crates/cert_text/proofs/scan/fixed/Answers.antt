use Rattle.std.proofs.Common.{◌<◌, length, arith}
use Rattle.cert_text.proofs.PieceLemmas.{literal-differs, literal-ends}
use Rattle.cert_text.proofs.scan.fixed.Goals as goal

pub returns-then-i-bytes-clause-err : goal.returns-then-i-bytes-clause-err
returns-then-i-bytes-clause-err c =
    literal-ends c.args.text.now c.args.bytes.now c.loop-i.i c.loop-i-test.true c.if-i-bytes.true c.loop-i.invariant.1

pub returns-then-bytes-i-clause-err : goal.returns-then-bytes-i-clause-err
returns-then-bytes-i-clause-err c =
    let other = c.if-i-bytes.false in
    let within : c.loop-i.i < length c.args.bytes.now = omega (arith, c.loop-i.invariant.0, other) in
    literal-differs c.args.text.now c.args.bytes.now c.loop-i.i c.loop-i-test.true within c.loop-i.invariant.1
    c.if-bytes-i.true
