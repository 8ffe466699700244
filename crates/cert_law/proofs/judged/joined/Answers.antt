use Rattle.rule_law.proofs.RuleBits.{union_has}
use Rattle.cert_law.proofs.judged.joined.Goals as goal

pub returns : goal.returns
returns c = λ r. union_has c.args.a.bits c.args.b.bits r
