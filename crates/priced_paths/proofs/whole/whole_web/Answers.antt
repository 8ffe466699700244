use Rattle.priced_paths.proofs.Listing.{fits}
use Rattle.priced_paths.proofs.whole.whole_web.Goals as goal

pub returns-clause-fits : goal.returns-clause-fits
returns-clause-fits g c = fits _ _ _ _ c.in_ok-states.states.keys c.in_ok-states.ensures.states
