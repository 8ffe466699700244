use Rattle.std.proofs.Common.{IsTrue, sym, subst, refl, false}
use Rattle.std.specs.Prelude.{◌↔◌}
use Rattle.cert_text.specs.declared.claim.Claim.{Claim}
use Rattle.cert_law.specs.Claims.{IsTrueOf}
use Rattle.cert_law.specs.Cases.{matter_of}
use Rattle.cert_law.proofs.TruthLemmas.{floor_truth, no_floor_truth, setting_truth}
use Rattle.cert_law.proofs.truth.is_true.Goals as goal

pub returns-in-Open : goal.returns-in-Open
returns-in-Open c = λ stated p judged tail.
    let t = matter_of c.args.case.now in
    subst (λ (k : Claim). IsTrue c.can_go_on.result ↔ IsTrueOf t.exercise t.sheet t.head stated p k) (sym c.in-Open.is)
    (c.can_go_on.ensures t stated p refl judged)

pub returns-in-Some : goal.returns-in-Some
returns-in-Some c = λ stated p judged tail.
    let t = matter_of c.args.case.now in
    subst (λ (k : Claim). IsTrue c.is_no_better.result ↔ IsTrueOf t.exercise t.sheet t.head stated p k) (sym c.in-Floor.is)
    (floor_truth t.exercise t.sheet t.head stated p c.is_no_better.result c.args.tail c.in-Some.tail c.args.judged.now.paid
    c.args.judged.now.least tail c.in-Some.is judged.paid judged.least (c.is_no_better.ensures p judged))

pub returns-in-None : goal.returns-in-None
returns-in-None c = λ stated p judged tail.
    let t = matter_of c.args.case.now in
    subst (λ (k : Claim). IsTrue false ↔ IsTrueOf t.exercise t.sheet t.head stated p k) (sym c.in-Floor.is)
    (no_floor_truth t.exercise t.sheet t.head stated p c.args.tail tail c.in-None.is)

pub returns-in-TheScore : goal.returns-in-TheScore
returns-in-TheScore c = λ stated p judged tail.
    let t = matter_of c.args.case.now in
    subst (λ (k : Claim). IsTrue c.is_setting.result ↔ IsTrueOf t.exercise t.sheet t.head stated p k) (sym c.in-TheScore.is)
    (setting_truth t.exercise t.sheet t.head stated p c.is_setting.result (c.is_setting.ensures p judged))
