use Rattle.std.proofs.Common.{arith}
use Rattle.cert_writer.proofs.Begun.{falling_more}
use Rattle.cert_writer.proofs.stating.+are_falling.Goals as goal

pub returns : goal.returns
returns t c =
    falling_more c.are_falling.result c.args.high c.args.most c.in-Some.key.now c.in-Some.rest.now c.args.keys.now
    c.in-Some.ensures.cases.0 (omega arith) (omega arith) c.are_falling.ensures
