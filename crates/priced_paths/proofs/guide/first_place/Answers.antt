use Rattle.std.proofs.Common.{None}
use Rattle.std.proofs.lemmas.List.{get_or-replicate}
use Rattle.priced_paths.proofs.guide.first_place.Goals as goal

pub returns-clause-standings : goal.returns-clause-standings
returns-clause-standings c = λ k within. get_or-replicate 16 k _ None within
