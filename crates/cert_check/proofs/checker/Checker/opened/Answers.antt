use Rattle.std.proofs.Common.{ap}
use Rattle.cert_law.specs.Cases.{Matter}
use Rattle.cert_law.specs.Known.{tailed_of}
use Rattle.cert_check.proofs.CheckerLemmas.{seen}
use Rattle.cert_check.proofs.checker.Checker.opened.Goals as goal

pub invariant_of-result : goal.invariant_of-result
invariant_of-result g c = c.in_ok-judging.ensures.checking

pub returns : goal.returns
returns g c =
    let t : Matter = record { exercise = c.args.exercise.now; sheet = c.args.sheet.now; head = c.args.head } in
    ap (seen (tailed_of t (g.T.Tails.basis c.args.tails))) c.in_ok-judging.ensures.standing
