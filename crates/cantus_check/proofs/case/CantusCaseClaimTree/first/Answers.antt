use Rattle.std.proofs.Common.{◌==◌, ap, refl, arith}
use Rattle.std.proofs.lemmas.Nat.Bits.{bit_at-zero}
use Rattle.cantus_check.proofs.Tellings.{order-start}
use Rattle.cantus_check.proofs.case.CantusCaseClaimTree.first.Goals as goal

pub returns : goal.returns
returns c = record {
  node = c.no_pitches.ensures;
  broken = λ r. ap (λ n. n == 1) (bit_at-zero r);
  order = order-start c.args.self.now.head.best;
  size = refl;
  few = omega arith;
}
