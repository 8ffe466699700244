use Rattle.std.proofs.Common.{subst}
use Rattle.fux_port.specs.Promises.{Fails}
use Rattle.works.specs.Searched.{IsFoundFor}
use Rattle.works.proofs.CertifyLemmas.{best_certified, bound_told, none_certified, setting_holds}
use Rattle.works.proofs.certifying.certify.Goals as goal

pub put_certificate-requires-clause-holds : goal.put_certificate-requires-clause-holds
put_certificate-requires-clause-holds g c κs within =
    let space = c.in_ok-space.space in
    setting_holds c.args.budget space.sheet space.exercise c.args.form c.in-Best.score c.in-Best.penalty
    (subst (IsFoundFor c.args.form space.exercise space.sheet c.args.budget) c.in-Best.is c.in-Ok.ensures)

pub returns-in-Best : goal.returns-in-Best
returns-in-Best g c =
    let space = c.in_ok-space.space in
    best_certified c.args.budget c.args.form c.args.sheet.now c.args.exercise.now space c.requires.valid
    c.requires.unmixed c.in-Best.score c.in-Best.penalty
    (Fails g.K.Sink.faults g.K.Sink.serves c.args.out.now c.put_certificate.new.out) _ _ _
    c.in_ok-space.ensures.made
    (subst (IsFoundFor c.args.form space.exercise space.sheet c.args.budget) c.in-Best.is c.in-Ok.ensures) c.penalty_fits.ensures
    c.put_certificate.ensures

pub returns-in-Nothing : goal.returns-in-Nothing
returns-in-Nothing g c =
    let space = c.in_ok-space.space in
    none_certified c.args.budget c.args.form c.args.sheet.now c.args.exercise.now space c.requires.valid
    c.requires.unmixed
    (Fails g.K.Sink.faults g.K.Sink.serves c.args.out.now c.put_certificate-in-Nothing.new.out) _ _ _
    c.in_ok-space.ensures.made
    (subst (IsFoundFor c.args.form space.exercise space.sheet c.args.budget) c.in-Nothing.is c.in-Ok.ensures)
    c.put_certificate-in-Nothing.ensures

pub returns : goal.returns
returns g c =
    let space = c.in_ok-space.space in
    bound_told c.args.budget c.args.form c.args.sheet.now c.args.exercise.now space c.requires.valid
    c.requires.unmixed c.in-Spent.bound
    (Fails g.K.Sink.faults g.K.Sink.serves c.args.out.now c.put_bound.new.out) _ _ _ c.in_ok-space.ensures.made
    (subst (IsFoundFor c.args.form space.exercise space.sheet c.args.budget) c.in-Spent.is c.in-Ok.ensures)
    c.put_bound.ensures
