use Rattle.std.proofs.Common.{[], refl}
use Rattle.cert_law.specs.Cases.{matter_of}
use Rattle.cert_law.proofs.KnownLemmas.{tail_moved}
use Rattle.cert_law.proofs.tailed.first_known.Goals as goal

pub returns : goal.returns
returns g c =
    let t = matter_of c.args.case.now in
    record {
      judged = c.start-judged.ensures t refl refl;
      tail = tail_moved t (g.T.Tails.basis c.args.tails.now) [] c.start-tail.result c.requires.tails c.start-tail.ensures;
      voices = c.none.ensures t.exercise c.start-judged.result.state;
    }
