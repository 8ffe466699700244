use Rattle.std.proofs.Common.{ap}
use Rattle.price_check.proofs.Webs.{web_is}
use Rattle.price_check.specs.PriceLists.{PriceList}
use Rattle.priced_floors.specs.declared.pricing.PricedSpace.{PricedSpace}
use Rattle.price_check.proofs.woven.floor_of.Goals as goal

pub new-sums-requires-clause-web : goal.new-sums-requires-clause-web
new-sums-requires-clause-web c =
    web_is c.args.webs.now c.args.list.now c.web_in-web.result.now c.requires.web c.web_in-web.ensures

pub new-sums-requires-clause-few : goal.new-sums-requires-clause-few
new-sums-requires-clause-few c = c.requires.numbers.few

pub new-sums-requires-clause-short : goal.new-sums-requires-clause-short
new-sums-requires-clause-short c = c.requires.numbers.short

pub new-sums-requires-clause-each : goal.new-sums-requires-clause-each
new-sums-requires-clause-each c = c.requires.numbers.each

pub new-sums-requires-clause-numbers : goal.new-sums-requires-clause-numbers
new-sums-requires-clause-numbers c = λ k within. c.requires.numbers.worked c.web_in-web.result.now c.web_in-web.ensures k within

pub returns-clause-list : goal.returns-clause-list
returns-clause-list c =
    let of : PricedSpace → PriceList = λ s. record { keeps = s.keeps; charges = s.charges.now; plain = c.args.list.now.plain } in
    ap of c.new-sums.ensures.pricing

pub returns-clause-space : goal.returns-clause-space
returns-clause-space c = ap (λ (s : PricedSpace). s.space.now) c.new-sums.ensures.pricing
