use Rattle.cert_law.specs.Known.{ways_of}
use Rattle.price_check.proofs.sharp_case.SharpCase.judge_by_lists.Goals as goal

pub is_true-requires : goal.is_true-requires
is_true-requires c = record {
  node = (ways_of c.args.self.now.case.exercise).child c.requires.node c.args.number;
  is_of = c.behind-next.ensures c.requires.node c.requires.is_open.is_of c.requires.step;
}

pub returns-clause-told : goal.returns-clause-told
returns-clause-told c = λ p is at.
    c.is_true.ensures ((ways_of c.args.self.now.case.exercise).child p c.args.number) (c.behind-next.ensures p is at)
