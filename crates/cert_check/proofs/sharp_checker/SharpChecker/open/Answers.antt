use Rattle.std.proofs.Common.{ap}
use Rattle.cert_check.proofs.SharpChecks.{lists_exclude, sharp_seen}
use Rattle.cert_check.proofs.sharp_checker.SharpChecker.open.Goals as goal

pub invariant_of-result : goal.invariant_of-result
invariant_of-result c = record {
  case = c.kept.ensures.case;
  due = c.requires.due;
  excluded = lists_exclude c.args.it c.kept.ensures.case c.requires.small c.requires.keys c.requires.due;
  kept = c.in_ok-judging.ensures.kept;
}

pub returns : goal.returns
returns c = ap (sharp_seen c.args.it) c.in_ok-judging.ensures.standing
