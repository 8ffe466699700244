use Rattle.works.proofs.AgreeLemmas as agree
use Rattle.works.proofs.law.best_is_composed.Goals as goal

pub returns : goal.returns
returns c = record { same = agree.best_is_composed; ends = agree.best_ends_as_composed }
