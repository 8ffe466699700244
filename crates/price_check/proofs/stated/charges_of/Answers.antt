use Rattle.std.proofs.Common.{ℕ, List, length, map, ap, arith}
use Rattle.price_check.specs.PriceLines.{line_of}
use Rattle.price_check.proofs.Told.{cases_few, cases_low}
use Rattle.price_check.proofs.stated.charges_of.Goals as goal

pub all_prices-requires : goal.all_prices-requires
all_prices-requires c =
    let few = cases_few (map line_of c.args.lines.now) c.requires in
    omega (arith, few, ap (λ (x : ℕ × List ℕ). length x.1) c.cases_of-voice.ensures)

pub summits_between-requires-clause-low : goal.summits_between-requires-clause-low
summits_between-requires-clause-low c = λ k.
    rw (ap (λ (x : ℕ × List ℕ). x.1) c.cases_of-voice.ensures) (cases_low (map line_of c.args.lines.now) c.requires k)

pub summits_between-requires-clause-few : goal.summits_between-requires-clause-few
summits_between-requires-clause-few c =
    rw (ap (λ (x : ℕ × List ℕ). x.1) c.cases_of-voice.ensures) (cases_few (map line_of c.args.lines.now) c.requires)
