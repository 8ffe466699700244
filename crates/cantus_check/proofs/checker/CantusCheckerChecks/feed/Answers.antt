use Rattle.std.proofs.Common.{Err, OnOk, ap, sym, ◌∙◌, subst}
use Rattle.std.specs.Prelude.{IfErr, Result}
use Rattle.cert_text.specs.declared.answers.Refused.{Refused}
use Rattle.cert_tree.specs.Judgings.{standing_of}
use Rattle.cantus_check.specs.Known.{ways_of}
use Rattle.cantus_check.specs.Topics.{cantus_subject}
use Rattle.cert_file.specs.Checking.{Refuses, Takes}
use Rattle.cert_file.proofs.CheckingLemmas.{refused_seen, seen_at, taken_seen}
use Rattle.cantus_check.proofs.checker.CantusCheckerChecks.feed.Goals.{in-Err, in-Ok}
use Rattle.cantus_check.proofs.checker.CantusCheckerChecks.feed.Goals as goal

pub returns-clause-taken : goal.returns-clause-taken
returns-clause-taken c =
    let it = c.self.inside.case in
    let old = standing_of (ways_of it.space) c.self.inside.judging in
    let new = standing_of (ways_of it.space) c.feed.new.judging in
    let now = c.args.self.now in
    elim c.match-feed.branch [
      | in-Ok w ↦ λ unrefused.
          subst (λ (r : Result (Unit {0}) Refused).
          OnOk r (Takes (cantus_subject now.asked) now c.args.claim (seen_at it.space it.head.best new)))
          (sym w.result-is)
          (taken_seen cantus_subject it.space it.head.best old new c.args.claim now c.self.view_is w.in-Ok.ensures.taken
          unrefused)
      | in-Err w ↦ λ unrefused.
          subst (λ (r : Result (Unit {0}) Refused).
          OnOk r (Takes (cantus_subject now.asked) now c.args.claim (seen_at it.space it.head.best new)))
          (sym w.result-is) tt
    ]

pub returns-clause-refused : goal.returns-clause-refused
returns-clause-refused c =
    let it = c.self.inside.case in
    let old = standing_of (ways_of it.space) c.self.inside.judging in
    let new = standing_of (ways_of it.space) c.feed.new.judging in
    let now = c.args.self.now in
    elim c.match-feed.branch [
      | in-Ok w ↦ λ unrefused.
          subst (λ (r : Result (Unit {0}) Refused).
          IfErr r (λ refused. Refuses (cantus_subject now.asked) now c.args.claim refused (seen_at it.space it.head.best new)))
          (sym w.result-is) tt
      | in-Err w ↦ λ unrefused.
          subst (λ (r : Result (Unit {0}) Refused).
          IfErr r (λ refused. Refuses (cantus_subject now.asked) now c.args.claim refused (seen_at it.space it.head.best new)))
          (sym (w.result-is ∙ ap Err w.refused_by.ensures))
          (refused_seen cantus_subject it.space it.head.best old new c.args.claim w.in-Err.refusal now c.self.view_is
          w.in-Err.ensures.refused unrefused)
    ]
