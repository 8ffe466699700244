-- What a search for the best setting of a mixed exercise tells within a budget, which is spent
-- exactly where it must be. Loads are counted over the prefixes in which no strict break is
-- settled.
use Rattle.std.specs.Prelude.{ℕ, false, List}
use Rattle.fux_grid.specs.declared.cell.Cell.{Cell}
use Rattle.fux_grid.specs.declared.exercise.Exercise.{Exercise}
use Rattle.penalty_sheet.specs.declared.sheet.Sheet.{Sheet}
use Rattle.tree_search.specs.Quests as quests
use Rattle.species_space.specs.Paths.{live_with, prefix_at}
use Rattle.species_space.specs.Trees.{mixed_settings}

-- the best setting with its penalty, whose load is within the budget
abbrev pub IsBestWithin : Exercise → Sheet → ℕ → List (List Cell) → ℕ → Type 0
IsBestWithin ex sheet = quests.IsBestWithin (mixed_settings ex sheet)

-- a live path to it
abbrev pub LeadsToBest : Exercise → Sheet → ℕ → List ℕ → ℕ → Type 0
LeadsToBest ex sheet = quests.LeadsToBest (mixed_settings ex sheet) (live_with false ex sheet) (prefix_at ex)

-- no setting is lawful, and all prefixes that are live are within the budget
abbrev pub IsNothingWithin : Exercise → Sheet → ℕ → Type 0
IsNothingWithin ex sheet = quests.IsNothingWithin (mixed_settings ex sheet)

-- the least number whose load is above the budget; no lawful setting's penalty is lower
abbrev pub IsLeastOver : Exercise → Sheet → ℕ → ℕ → Type 0
IsLeastOver ex sheet = quests.IsLeastOver (mixed_settings ex sheet)
