use Rattle.std.proofs.Common.{◌≡◌, [], subst}
use Rattle.std.specs.Result.{IfOk}
use Rattle.std.proofs.lemmas.Result.{IfOk-weaker}
use Rattle.cert_law.specs.Cases.{Matter}
use Rattle.cert_law.specs.Certificates.{Begins}
use Rattle.cert_law.specs.Known.{IsKnown, Tailed, tree_in, ways_of}
use Rattle.cert_law.specs.WayLaws.{RefutesExcluded}
use Rattle.cert_tree.specs.Judgings.{IsKept, begun_at, standing_of}
use Rattle.cert_check.specs.Opening.{IsChecking}
use Rattle.cert_check.proofs.checker.begun.Goals as goal

pub returns-clause-standing : goal.returns-clause-standing
returns-clause-standing g c =
    subst
    (λ (x : Tailed). IfOk c.begin.result (λ judging. standing_of (ways_of x.case.exercise) judging ≡ begun_at []))
    c.new.ensures c.begin.ensures.standing

pub returns-clause-checking : goal.returns-clause-checking
returns-clause-checking g c =
    let t : Matter = record { exercise = c.args.exercise.now; sheet = c.args.sheet.now; head = c.args.head.now } in
    IfOk-weaker c.begin.result _ (IsChecking t (g.T.Tails.basis c.args.tails.now))
    (λ judging kept. record {
      case = c.requires.case;
      has = c.requires.tails;
      entries = c.requires.entries;
      kept = kept;
    })
    (subst
    (λ (x : Tailed). IfOk c.begin.result (IsKept (tree_in x) (IsKnown x) (ways_of x.case.exercise) Begins
    (RefutesExcluded x)))
    c.new.ensures c.begin.ensures.kept)
