use Rattle.std.proofs.Common.{◌≡◌, arith, rules}
use Rattle.melody_rules.specs.GaugeParts.{place_in}
use Rattle.priced_floors.specs.Strikes.{strike_price}
use Rattle.priced_floors.specs.Charges.{prices_of}
use Rattle.priced_floors.proofs.charges.Charges.strike.Goals as goal

pub returns-in-Some-clause-small : goal.returns-in-Some-clause-small
returns-in-Some-clause-small c =
    let value : c.strike_price.result ≡ strike_price (prices_of c.args.self.now c.args.case c.args.v).strikes c.args.p =
    search rules in
    omega (arith, value, c.requires.small.strikes c.args.case c.args.v (place_in c.args.p))
