use Rattle.std.proofs.Common.{◌≤◌, List, sym, subst, ◌∙◌}
use Rattle.fux_pitch.specs.declared.pitch.Pitch.{Pitch}
use Rattle.fux_port.specs.Promises.{Fails}
use Rattle.cantus_space.specs.Answers.{IsBestWithin, IsLeastOver, IsNothingWithin, LeadsToBest}
use Rattle.cantus_space.specs.declared.plan.CantusPlan.{CantusPlan}
use Rattle.tree_search.specs.Outcomes.{IfFound, IfSpent, OnNothing}
use Rattle.works.specs.CantusCertified.{CertifiesPlan}
use Rattle.works.specs.Endings.{WritesTo}
use Rattle.works.proofs.CantusCertifyLemmas.{best_certified, bound_told, none_certified}
use Rattle.works.proofs.cantus_certifying.certify.Goals as goal

pub put_certificate-requires : goal.put_certificate-requires
put_certificate-requires g c =
    let space = c.space_of-space.result in
    let leads = subst (λ outcome. IfFound outcome (LeadsToBest space c.args.budget)) c.in-Found.is c.in-Ok.ensures.exact.found in
    let own : LeadsToBest space c.args.budget c.as_slice.result.now c.in-Found.value = rw c.as_slice.ensures leads in
    let best = subst (λ (ps : List Pitch). IsBestWithin space c.args.budget ps c.in-Found.value)
    (sym (c.as_slice-in-Found.ensures.value ∙ c.in-Ok-cantus_of.ensures)) own.best in
    record { holds = (best.best, sym best.charged) }

pub returns-in-Ok-cantus_of : goal.returns-in-Ok-cantus_of
returns-in-Ok-cantus_of g c =
    let space = c.space_of-space.result in
    let leads = subst (λ outcome. IfFound outcome (LeadsToBest space c.args.budget)) c.in-Found.is c.in-Ok.ensures.exact.found in
    let own : LeadsToBest space c.args.budget c.as_slice.result.now c.in-Found.value = rw c.as_slice.ensures leads in
    let best = subst (λ (ps : List Pitch). IsBestWithin space c.args.budget ps c.in-Found.value)
    (sym (c.as_slice-in-Found.ensures.value ∙ c.in-Ok-cantus_of.ensures)) own.best in
    subst
    (λ (plan : CantusPlan). WritesTo g.K.Sink.written g.K.Sink.faults g.K.Sink.serves (CertifiesPlan plan c.args.budget) c.args.out.now
    c.put_certificate.new.out c.put_certificate.result)
    c.space_of-space.ensures
    (best_certified space c.args.budget
    (Fails g.K.Sink.faults g.K.Sink.serves c.args.out.now c.put_certificate.new.out) _ _ c.put_certificate.result
    c.as_slice-in-Found.result.now c.in-Found.value best
    (subst (λ (plan : CantusPlan). 3 ≤ plan.bars) (sym c.space_of-space.ensures) c.requires.fewest)
    (subst (λ (plan : CantusPlan). plan.bars ≤ 24) (sym c.space_of-space.ensures) c.requires.most)
    c.penalty_fits.ensures c.put_certificate.ensures)

pub returns-in-Nothing : goal.returns-in-Nothing
returns-in-Nothing g c =
    let space = c.space_of-space.result in
    let out = c.put_certificate-in-Nothing.new.out in
    let none = subst (λ outcome. OnNothing outcome (IsNothingWithin space c.args.budget)) c.in-Nothing.is
    c.in-Ok.ensures.exact.nothing in
    subst
    (λ (plan : CantusPlan). WritesTo g.K.Sink.written g.K.Sink.faults g.K.Sink.serves (CertifiesPlan plan c.args.budget) c.args.out.now out
    c.put_certificate-in-Nothing.result)
    c.space_of-space.ensures
    (none_certified space c.args.budget (Fails g.K.Sink.faults g.K.Sink.serves c.args.out.now out) _ _
    c.put_certificate-in-Nothing.result none c.put_certificate-in-Nothing.ensures)

pub returns-in-Spent : goal.returns-in-Spent
returns-in-Spent g c =
    let space = c.space_of-space.result in
    let out = c.put_bound.new.out in
    let least = subst (λ outcome. IfSpent outcome (IsLeastOver space c.args.budget)) c.in-Spent.is c.in-Ok.ensures.exact.spent in
    subst
    (λ (plan : CantusPlan). WritesTo g.K.Sink.written g.K.Sink.faults g.K.Sink.serves (CertifiesPlan plan c.args.budget) c.args.out.now out
    c.put_bound.result)
    c.space_of-space.ensures
    (bound_told space c.args.budget (Fails g.K.Sink.faults g.K.Sink.serves c.args.out.now out) _ _ c.put_bound.result
    c.in-Spent.bound least c.put_bound.ensures)
