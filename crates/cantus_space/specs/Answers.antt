-- What a search for the best cantus tells within a budget, which is spent exactly where it must be.
-- Loads are counted over the pitches of their bars' pools that break no rule.
use Rattle.std.specs.Prelude.{ℕ, List}
use Rattle.fux_pitch.specs.declared.pitch.Pitch.{Pitch}
use Rattle.tree_search.specs.Quests as quests
use Rattle.cantus_space.specs.declared.plan.CantusPlan.{CantusPlan}
use Rattle.cantus_space.specs.Lawful.{quest_of}
use Rattle.cantus_space.specs.Paths.{live_at, pitches_at}

-- the best cantus with its penalty, whose load is within the budget
abbrev pub IsBestWithin : CantusPlan → ℕ → List Pitch → ℕ → Type 0
IsBestWithin plan = quests.IsBestWithin (quest_of plan)

-- a live path to it
abbrev pub LeadsToBest : CantusPlan → ℕ → List ℕ → ℕ → Type 0
LeadsToBest plan = quests.LeadsToBest (quest_of plan) (live_at plan) (pitches_at plan)

-- no cantus is lawful, and all pitches that begin one are within the budget
abbrev pub IsNothingWithin : CantusPlan → ℕ → Type 0
IsNothingWithin plan = quests.IsNothingWithin (quest_of plan)

-- the least number whose load is above the budget; no lawful cantus's penalty is lower
abbrev pub IsLeastOver : CantusPlan → ℕ → ℕ → Type 0
IsLeastOver plan = quests.IsLeastOver (quest_of plan)
