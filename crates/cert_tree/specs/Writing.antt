-- The claims that are still to be written of a tree.
use Rattle.std.specs.Prelude.{ℕ, ◌-◌, List, [], ◌∷◌, Option, None, Some}
use Rattle.std.specs.List.{AllByRecursion, flat_map}
use Rattle.cert_tree.specs.Trees.{AreTrueFrom, Tree, claims_from}
use Rattle.cert_tree.specs.Walks.{Ways, owed_by_walk}
use Rattle.cert_tree.specs.declared.walk.Walk.{Walk}

-- how many steps more may come behind a node
abbrev pub steps_left : {X : Type 0} → Ways X → X → ℕ
steps_left ways p = ways.height - ways.steps p

-- the own claims of a node and of all that it owes
abbrev pub claims_at : {X C : Type 0} → Tree X C → (X → C) → Ways X → X → List C
claims_at tree own ways p = claims_from tree own (steps_left ways p) p

-- those of all nodes that are owed, the next one first
abbrev pub claims_to_come : {X C K : Type 0} → Tree X C → (X → C) → Ways X → Walk K → List C
claims_to_come tree own ways walk = flat_map (claims_at tree own ways) (owed_by_walk ways walk)

-- they are true
abbrev pub AreTold : {X C K : Type 0} → Tree X C → (X → C) → Ways X → Walk K → Type 0
AreTold tree own ways walk = AllByRecursion (λ p. AreTrueFrom tree own (steps_left ways p) p) (owed_by_walk ways walk)

-- claims behind one, if there is one
abbrev pub claims_with : {C : Type 0} → Option C → List C → List C
claims_with None later = []
claims_with (Some claim) later = claim ∷ later
