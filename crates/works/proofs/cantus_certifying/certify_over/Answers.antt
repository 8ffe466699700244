use Rattle.std.proofs.Common.{inl, subst, sym}
use Rattle.cantus_space.specs.declared.prices.CantusPrices.{CantusPrices}
use Rattle.fux_port.specs.Promises.{Fails}
use Rattle.works.specs.CantusCertified.{CertifiesPlan, MakesCantusCertificate}
use Rattle.works.specs.Invented.{plan_of}
use Rattle.works.proofs.CertifyLemmas.{writes_so}
use Rattle.works.proofs.cantus_certifying.certify_over.Goals as goal

pub returns : goal.returns
returns g c = λ sheets weights.
    let wanted = c.args.wanted.now in
    let priced = c.in_ok-priced.priced in
    let read = c.in_ok-priced.ensures sheets weights in
    writes_so (CertifiesPlan (plan_of wanted priced.sheet priced.prices) c.args.budget)
    (MakesCantusCertificate wanted c.args.budget sheets)
    (Fails g.K.Sink.faults g.K.Sink.serves c.args.out.now c.certify.new.out) _ _ c.certify.result
    (λ work made. inl record {
      sheet = priced.sheet;
      said = read.0;
      made =
          subst (λ (prices : CantusPrices). CertifiesPlan (plan_of wanted priced.sheet prices) c.args.budget work)
          (sym read.1) made;
    })
    c.certify.ensures
