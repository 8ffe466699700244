use Rattle.std.proofs.Common.{◌≡◌, ◌<◌, ◌-◌, ◌∙◌, ap, arith}
use Rattle.std.specs.List.{range_with_len}
use Rattle.fux_pitch.specs.declared.memory.Memory.{Memory}
use Rattle.rayon.specs.Numbers.{nat_range}
use Rattle.rayon.proofs.ToStd.{nat_range-All}
use Rattle.price_check.proofs.Found.{cases_for}
use Rattle.price_check.proofs.woven.numbers_over.Goals as goal

pub collect-requires-clause-ready : goal.collect-requires-clause-ready
collect-requires-clause-ready g c κs within =
    let ends = c.into_par_iter.ensures in
    let size = c.cases.result in
    let inside = nat_range-All (λ i. i < size) 0 size (λ i low high. high) in
    rw (c.map.ensures.base, c.map.ensures.f, ends.0, ends.1)
    (λ k d short. ((c.requires, omega (arith, inside k d short, c.cases.ensures.value)), λ y is. tt))

pub returns : goal.returns
returns g c =
    let ends = c.into_par_iter.ensures in
    let base = c.map.ensures.base in
    let own = c.map.ensures.f in
    let count = c.cases.result in
    let whole : count - 0 ≡ count = omega arith in
    let chain = c.in_ok-numbers.ensures.1 in
    let numbers = chain.1 ∙ (λ i. nat_range (base i).start (base i).end) ∙ (λ i. nat_range (ends.0 i) (ends.1 i))
    ∙ ap (range_with_len 0) whole in
    cases_for Memory c.args.space.now c.map.result.f.1.now c.args.web.now c.map.result.f.2.now (λ i. (own i).1.now)
    (λ i. (own i).2.now) c.args.space.now.short c.args.space.now.few count c.cases.ensures.value chain.0
    c.in_ok-numbers.ensures.0 c.in_ok-numbers.numbers numbers chain.2 c.in_ok-numbers.ensures.2
