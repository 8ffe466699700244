use Rattle.cert_law.specs.Known.{ways_of}
use Rattle.price_check.proofs.sharp_case.SharpCase.tell_by_lists.Goals as goal

pub own_claim-requires : goal.own_claim-requires
own_claim-requires c = record {
  node = (ways_of c.args.self.now.case.exercise).child c.requires.node c.args.number;
  is_of = c.behind-next.ensures c.requires.node c.requires.is_open.is_of c.requires.step;
}

pub returns-clause-own : goal.returns-clause-own
returns-clause-own c = λ p is at.
    c.own_claim.ensures ((ways_of c.args.self.now.case.exercise).child p c.args.number) (c.behind-next.ensures p is at)
