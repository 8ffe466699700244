use Rattle.std.proofs.Common.{Err, OnOk, ap, sym, ◌∙◌, subst}
use Rattle.std.specs.Prelude.{IfErr, Result}
use Rattle.cert_text.specs.declared.answers.Refused.{Refused}
use Rattle.cert_law.specs.Cases.{Matter}
use Rattle.cert_law.specs.Certificates.{Begins}
use Rattle.cert_law.specs.Known.{IsKnown, Tailed, tailed_of, tree_in, ways_of}
use Rattle.cert_law.specs.WayLaws.{RefutesExcluded}
use Rattle.cert_tree.specs.Judgings.{IsKept, standing_of}
use Rattle.cert_file.specs.Checking.{Refuses, Takes}
use Rattle.cert_check.specs.Settings.{setting_subject}
use Rattle.cert_check.proofs.CheckerLemmas.{refused_as, seen, taken_by}
use Rattle.cert_check.proofs.checker.CheckerChecks.feed.Goals.{in-Err, in-Ok}
use Rattle.cert_check.proofs.checker.CheckerChecks.feed.Goals as goal

pub feed-requires-clause-kept : goal.feed-requires-clause-kept
feed-requires-clause-kept g c =
    subst
    (λ (x : Tailed). IsKept (tree_in x) (IsKnown x) (ways_of x.case.exercise) Begins (RefutesExcluded x)
    c.self.inside.judging)
    (sym c.new-it.ensures) c.self.invariant.kept

pub invariant_of-self : goal.invariant_of-self
invariant_of-self g c = record {
  case = c.self.invariant.case;
  has = c.self.invariant.has;
  entries = c.self.invariant.entries;
  kept =
      subst
      (λ (x : Tailed). IsKept (tree_in x) (IsKnown x) (ways_of x.case.exercise) Begins (RefutesExcluded x) c.feed.new.judging)
      c.new-it.ensures c.feed.ensures.kept;
}

pub returns-clause-taken : goal.returns-clause-taken
returns-clause-taken g c =
    let t : Matter = record {
      exercise = c.self.inside.exercise.now;
      sheet = c.self.inside.sheet.now;
      head = c.self.inside.head;
    } in
    let tailed = tailed_of t (g.T.Tails.basis c.self.inside.tails) in
    let new = seen tailed (standing_of (ways_of t.exercise) c.feed.new.judging) in
    elim c.match-feed.branch [
      | in-Ok w ↦ λ unrefused.
          subst (λ (r : Result (Unit {0}) Refused). OnOk r (Takes (setting_subject c.args.self.now.asked) c.args.self.now c.args.claim new)) (sym w.result-is)
          (taken_by tailed c.new-it.result c.new-it.ensures c.self.inside.judging c.feed.new.judging c.args.claim
          c.args.self.now c.self.view_is w.in-Ok.ensures.taken unrefused)
      | in-Err w ↦ λ unrefused.
          subst (λ (r : Result (Unit {0}) Refused). OnOk r (Takes (setting_subject c.args.self.now.asked) c.args.self.now c.args.claim new)) (sym w.result-is) tt
    ]

pub returns-clause-refused : goal.returns-clause-refused
returns-clause-refused g c =
    let t : Matter = record {
      exercise = c.self.inside.exercise.now;
      sheet = c.self.inside.sheet.now;
      head = c.self.inside.head;
    } in
    let tailed = tailed_of t (g.T.Tails.basis c.self.inside.tails) in
    let new = seen tailed (standing_of (ways_of t.exercise) c.feed.new.judging) in
    elim c.match-feed.branch [
      | in-Ok w ↦ λ unrefused.
          subst (λ (r : Result (Unit {0}) Refused). IfErr r (λ refused. Refuses (setting_subject c.args.self.now.asked) c.args.self.now c.args.claim refused new))
          (sym w.result-is) tt
      | in-Err w ↦ λ unrefused.
          subst (λ (r : Result (Unit {0}) Refused). IfErr r (λ refused. Refuses (setting_subject c.args.self.now.asked) c.args.self.now c.args.claim refused new))
          (sym (w.result-is ∙ ap Err w.refused_by.ensures))
          (refused_as tailed c.new-it.result c.new-it.ensures c.self.inside.judging c.feed.new.judging c.args.claim
          w.in-Err.refusal c.args.self.now c.self.view_is w.in-Err.ensures.refused unrefused)
    ]
