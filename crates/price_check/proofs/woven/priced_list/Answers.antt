use Rattle.std.proofs.Common.{ap₂}
use Rattle.open_ends.specs.declared.keeps.Keeps.{Keeps}
use Rattle.price_check.specs.PriceLists.{PriceList}
use Rattle.priced_floors.specs.declared.charges.Charges.{Charges}
use Rattle.price_check.proofs.woven.priced_list.Goals as goal

pub new-requires-clause-fair : goal.new-requires-clause-fair
new-requires-clause-fair c = c.requires.fair.fair

pub new-requires-clause-small : goal.new-requires-clause-small
new-requires-clause-small c = c.requires.small

pub new-requires-clause-scale : goal.new-requires-clause-scale
new-requires-clause-scale c = c.requires.scale

pub new-requires-clause-few : goal.new-requires-clause-few
new-requires-clause-few c = c.requires.few

pub returns-clause-list : goal.returns-clause-list
returns-clause-list c =
    let of : Keeps → Charges → PriceList = λ keeps charges.
    record { keeps = keeps; charges = charges; plain = c.args.own.now.plain } in
    ap₂ of c.in_ok-priced.ensures.keeps c.in_ok-priced.ensures.charges
