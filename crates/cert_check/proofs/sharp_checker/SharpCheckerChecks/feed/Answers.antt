use Rattle.std.proofs.Common.{Err, OnOk, ap, sym, ◌∙◌, subst}
use Rattle.std.specs.Prelude.{IfErr, Result}
use Rattle.cert_text.specs.declared.answers.Refused.{Refused}
use Rattle.cert_law.specs.Known.{ways_of}
use Rattle.cert_tree.specs.Judgings.{standing_of}
use Rattle.cert_file.specs.Checking.{Refuses, Takes}
use Rattle.cert_file.proofs.CheckingLemmas.{refused_seen, taken_seen}
use Rattle.cert_check.specs.Settings.{setting_subject}
use Rattle.cert_check.proofs.SharpChecks.{sharp_asked, sharp_opening, sharp_seen}
use Rattle.cert_check.proofs.sharp_checker.SharpCheckerChecks.feed.Goals.{in-Err, in-Ok}
use Rattle.cert_check.proofs.sharp_checker.SharpCheckerChecks.feed.Goals as goal

pub feed-requires-clause-kept : goal.feed-requires-clause-kept
feed-requires-clause-kept c = c.self.invariant.kept

pub invariant_of-self : goal.invariant_of-self
invariant_of-self c = record {
  case = c.self.invariant.case;
  due = c.self.invariant.due;
  excluded = c.self.invariant.excluded;
  kept = c.feed.ensures.kept;
}

pub returns-clause-taken : goal.returns-clause-taken
returns-clause-taken c =
    let s = c.self.inside.it in
    let ways = ways_of s.case.exercise in
    let new = standing_of ways c.feed.new.judging in
    elim c.match-feed.branch [
      | in-Ok w ↦ λ unrefused.
          subst (λ (r : Result (Unit {0}) Refused). OnOk r (Takes (setting_subject c.args.self.now.asked) c.args.self.now c.args.claim (sharp_seen s new))) (sym w.result-is)
          (taken_seen setting_subject (sharp_asked s) (sharp_opening s) (standing_of ways c.self.inside.judging) new
          c.args.claim c.args.self.now c.self.view_is w.in-Ok.ensures.taken unrefused)
      | in-Err w ↦ λ unrefused.
          subst (λ (r : Result (Unit {0}) Refused). OnOk r (Takes (setting_subject c.args.self.now.asked) c.args.self.now c.args.claim (sharp_seen s new))) (sym w.result-is) tt
    ]

pub returns-clause-refused : goal.returns-clause-refused
returns-clause-refused c =
    let s = c.self.inside.it in
    let ways = ways_of s.case.exercise in
    let new = standing_of ways c.feed.new.judging in
    elim c.match-feed.branch [
      | in-Ok w ↦ λ unrefused.
          subst (λ (r : Result (Unit {0}) Refused). IfErr r (λ refused. Refuses (setting_subject c.args.self.now.asked) c.args.self.now c.args.claim refused (sharp_seen s new)))
          (sym w.result-is) tt
      | in-Err w ↦ λ unrefused.
          subst (λ (r : Result (Unit {0}) Refused). IfErr r (λ refused. Refuses (setting_subject c.args.self.now.asked) c.args.self.now c.args.claim refused (sharp_seen s new)))
          (sym (w.result-is ∙ ap Err w.refused_by.ensures))
          (refused_seen setting_subject (sharp_asked s) (sharp_opening s) (standing_of ways c.self.inside.judging) new
          c.args.claim w.in-Err.refusal c.args.self.now c.self.view_is w.in-Err.ensures.refused unrefused)
    ]
