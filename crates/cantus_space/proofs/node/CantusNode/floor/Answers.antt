use Rattle.std.proofs.Common.{◌≡◌, ◌+◌, ap, ◌∙◌, arith}
use Rattle.melody_rules.specs.Gauges.{beyond_fourth}
use Rattle.cantus_space.specs.Melody.{charged}
use Rattle.cantus_space.specs.Rules.{gauge_cost, least_climax, least_compass, least_gauges, least_leaps, paid}
use Rattle.cantus_space.proofs.node.CantusNode.floor.Goals as goal

pub returns : goal.returns
returns c = λ behind kept own_paid own_charged there.
    let node = c.args.self.now in
    let plan = c.args.plan.now in
    let climax : c.least_climax.result ≡ least_climax plan behind = c.least_climax.ensures.value behind kept there in
    let compass : c.least_compass.result ≡ least_compass plan behind = c.least_compass.ensures.value behind kept there in
    let leaps : c.saturating_sub.result ≡ least_leaps plan behind = omega
    (arith, c.saturating_sub.ensures, c.leap_excess.ensures.value behind kept.leaps, c.from.ensures, there) in
    let strikes : c.from-2.result ≡ beyond_fourth behind = c.from-2.ensures ∙ kept.beyond in
    let gauges : c.gauge_cost.result ≡ least_gauges plan behind =
    c.gauge_cost.ensures.value
    ∙ ap (λ n. gauge_cost plan.sheet n c.least_compass.result c.saturating_sub.result c.from-2.result) climax
    ∙ ap (λ n. gauge_cost plan.sheet (least_climax plan behind) n c.saturating_sub.result c.from-2.result) compass
    ∙ ap (λ n. gauge_cost plan.sheet (least_climax plan behind) (least_compass plan behind) n c.from-2.result) leaps
    ∙ ap (λ n. gauge_cost plan.sheet (least_climax plan behind) (least_compass plan behind) (least_leaps plan behind) n)
    strikes
    in
    ap (λ n. n + c.gauge_cost.result + (node.charged + c.least_ends.result)) own_paid
    ∙ ap (λ n. paid plan.sheet behind + n + (node.charged + c.least_ends.result)) gauges
    ∙ ap (λ n. paid plan.sheet behind + least_gauges plan behind + (n + c.least_ends.result)) own_charged
    ∙ ap (λ n. paid plan.sheet behind + least_gauges plan behind + (charged plan.prices behind + n))
    (c.least_ends.ensures.value behind kept)
