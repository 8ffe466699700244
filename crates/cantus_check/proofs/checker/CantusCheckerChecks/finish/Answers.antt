use Rattle.std.proofs.Common.{◌≡◌, List, Some, ap, subst, ◌∙◌}
use Rattle.std.specs.Prelude.{option_map}
use Rattle.cert_tree.specs.Judgings.{standing_of}
use Rattle.cantus_check.specs.Certificates.{Holds}
use Rattle.cantus_check.specs.Known.{ways_of}
use Rattle.cantus_check.proofs.Unrefuted.{unrefuted_holds}
use Rattle.cantus_space.specs.declared.plan.CantusPlan.{CantusPlan}
use Rattle.cantus_check.specs.Claims.{Said}
use Rattle.cantus_check.specs.Topics.{cantus_subject}
use Rattle.cert_file.specs.Checking.{Checking, refused_by}
use Rattle.cert_file.proofs.CheckingLemmas.{certificate_seen, none_certified, some_seen}
use Rattle.fux_pitch.specs.declared.pitch.Pitch.{Pitch}
use Rattle.cantus_check.proofs.checker.CantusCheckerChecks.finish.Goals as goal

pub returns-in-Some-clause-shown : goal.returns-in-Some-clause-shown
returns-in-Some-clause-shown c =
    let it = c.self.inside.case in
    subst (λ (s : Checking CantusPlan Said (List Pitch)). Holds s.asked s.head) c.self.view_is
    (unrefuted_holds it.space it.head.best c.self.invariant.sound c.in-Ok.ensures.shown)

pub returns-in-Some-clause-certified : goal.returns-in-Some-clause-certified
returns-in-Some-clause-certified c =
    let it = c.self.inside.case in
    certificate_seen cantus_subject it.space it.head.best c.args.self.now (standing_of (ways_of it.space) c.self.inside.judging)
    c.self.view_is c.self.invariant.sound c.in-Ok.ensures.certified

pub returns-in-None-clause-certified : goal.returns-in-None-clause-certified
returns-in-None-clause-certified c =
    let it = c.self.inside.case in
    certificate_seen cantus_subject it.space it.head.best c.args.self.now (standing_of (ways_of it.space) c.self.inside.judging)
    c.self.view_is c.self.invariant.sound c.in-Ok.ensures.certified

pub returns-in-Err-clause-uncertified : goal.returns-in-Err-clause-uncertified
returns-in-Err-clause-uncertified c =
    let it = c.self.inside.case in
    none_certified cantus_subject it.space it.head.best c.args.self.now (standing_of (ways_of it.space) c.self.inside.judging)
    c.self.view_is c.in-Err.ensures.uncertified

pub returns-in-Some-clause-again : goal.returns-in-Some-clause-again
returns-in-Some-clause-again c = λ refused is.
    let kept = c.self.inside.judging.refusal in
    let seen : option_map refused_by kept ≡ Some refused =
    ap (λ (s : Checking CantusPlan Said (List Pitch)). s.refusal) c.self.view_is ∙ is in
    let own = some_seen kept refused seen in
    cc (c.in-Ok.ensures.again own.0 own.1)
