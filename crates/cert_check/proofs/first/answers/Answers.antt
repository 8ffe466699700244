use Rattle.std.proofs.Common.{◌≡◌, ◌<◌, ◌-◌, ◌∙◌, ap, arith}
use Rattle.std.specs.List.{range_with_len}
use Rattle.rayon.specs.Numbers.{nat_range}
use Rattle.rayon.proofs.ToStd.{nat_range-All}
use Rattle.cert_check.proofs.FirstLemmas.{answers_are}
use Rattle.cert_check.proofs.first.answers.Goals as goal

pub collect-requires-clause-ready : goal.collect-requires-clause-ready
collect-requires-clause-ready g c κs within =
    let ends = c.into_par_iter.ensures in
    let size = g.T.Tests.size c.args.tests.now in
    let inside = nat_range-All (λ i. i < size) 0 size (λ i low high. high) in
    rw (c.map.ensures.base, c.map.ensures.f, ends.0, ends.1, c.count.ensures) (λ k d short. (inside k d short, λ y is. tt))

pub returns : goal.returns
returns g c =
    let ends = c.into_par_iter.ensures in
    let count = g.T.Tests.size c.args.tests.now in
    let whole : count - 0 ≡ count = omega arith in
    let passes = g.T.Tests.passes c.args.tests.now in
    let h = rw (c.map.ensures.base, c.map.ensures.f) at c.in_ok-found.ensures in
    let chain = h.1 in
    let numbers = chain.1 ∙ (λ i. nat_range (ends.0 i) (ends.1 i)) ∙ (ap (λ m. nat_range 0 m) c.count.ensures
    ∙ ap (range_with_len 0) whole) in
    answers_are passes count chain.0 h.0 c.in_ok-found.found.items numbers h.2 chain.2
