use Rattle.cantus_space.proofs.PricedLemmas.{says_as_before}
use Rattle.cantus_space.proofs.sheet_law.without_prices.Goals as goal

pub returns : goal.returns
returns c = says_as_before
