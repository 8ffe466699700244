use Rattle.std.proofs.Common.{List, sym, subst}
use Rattle.cert_tree.specs.Judgings.{IsKept}
use Rattle.cert_law.specs.Cases.{Matter}
use Rattle.cert_law.specs.Certificates.{Begins, Holds}
use Rattle.cert_law.specs.Known.{IsKnown, Tailed, tailed_of, tree_in, ways_of}
use Rattle.cert_law.specs.WayLaws.{RefutesExcluded}
use Rattle.fux_grid.specs.declared.cell.Cell.{Cell}
use Rattle.cert_file.specs.Checking.{Checking}
use Rattle.cert_check.specs.Settings.{Asked, Opening}
use Rattle.cert_check.proofs.CheckerLemmas.{certified_by, head_holds, none_certified_by, opening_sound}
use Rattle.cert_check.proofs.checker.CheckerChecks.finish.Goals as goal

pub finish-requires-clause-kept : goal.finish-requires-clause-kept
finish-requires-clause-kept g c =
    subst
    (λ (x : Tailed). IsKept (tree_in x) (IsKnown x) (ways_of x.case.exercise) Begins (RefutesExcluded x)
    c.self.inside.judging)
    (sym c.new.ensures) c.self.invariant.kept

pub returns-in-Ok-clause-shown : goal.returns-in-Ok-clause-shown
returns-in-Ok-clause-shown g c =
    let t : Matter = record {
      exercise = c.self.inside.exercise.now;
      sheet = c.self.inside.sheet.now;
      head = c.self.inside.head;
    } in
    let tailed = tailed_of t (g.T.Tails.basis c.self.inside.tails) in
    subst (λ (s : Checking Asked Opening (List (List Cell))). Holds s.asked.exercise s.asked.sheet s.head.head) c.self.view_is
    (head_holds tailed c.self.invariant.case c.self.invariant.entries
    (subst (λ (x : Tailed). (s : List (List Cell)) → RefutesExcluded x s → ⊥) c.new.ensures c.in-Ok.ensures.shown))

pub returns-in-Ok-clause-certified : goal.returns-in-Ok-clause-certified
returns-in-Ok-clause-certified g c =
    let t : Matter = record {
      exercise = c.self.inside.exercise.now;
      sheet = c.self.inside.sheet.now;
      head = c.self.inside.head;
    } in
    let tailed = tailed_of t (g.T.Tails.basis c.self.inside.tails) in
    certified_by tailed c.new.result c.new.ensures c.self.inside.judging c.args.self.now c.self.view_is
    (opening_sound tailed c.self.invariant.case c.self.invariant.entries) c.in-Ok.ensures.certified

pub returns-in-Err-clause-uncertified : goal.returns-in-Err-clause-uncertified
returns-in-Err-clause-uncertified g c =
    let t : Matter = record {
      exercise = c.self.inside.exercise.now;
      sheet = c.self.inside.sheet.now;
      head = c.self.inside.head;
    } in
    let tailed = tailed_of t (g.T.Tails.basis c.self.inside.tails) in
    none_certified_by tailed c.new.result c.new.ensures c.self.inside.judging c.args.self.now c.self.view_is
    c.in-Err.ensures.uncertified
