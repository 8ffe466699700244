use Rattle.std.proofs.Common.{rules}
use Rattle.std.proofs.lemmas.List.Sorted.{length_permutation}
use Rattle.tree_search.proofs.front.add.Goals as goal

pub returns-clause-room : goal.returns-clause-room
returns-clause-room c = let longer = length_permutation _ _ c.put.ensures.put in search rules
