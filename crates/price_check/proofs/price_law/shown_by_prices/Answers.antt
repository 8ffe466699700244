use Rattle.price_check.proofs.Excluded.{sharp_certificate_holds}
use Rattle.price_check.proofs.price_law.shown_by_prices.Goals as goal

pub returns : goal.returns
returns c = sharp_certificate_holds
