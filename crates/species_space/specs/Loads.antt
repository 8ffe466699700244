-- What a search for the best setting tells within a budget, which is spent exactly where it must be
-- (`IsExact`). Loads are counted over live prefixes.
use Rattle.std.specs.Prelude.{ℕ, List}
use Rattle.fux_grid.specs.declared.cell.Cell.{Cell}
use Rattle.fux_grid.specs.declared.exercise.Exercise.{Exercise}
use Rattle.penalty_sheet.specs.declared.sheet.Sheet.{Sheet}
use Rattle.tree_search.specs.Quests as quests
use Rattle.tree_search.specs.declared.outcome.Outcome.{Outcome}
use Rattle.species_space.specs.Paths.{live_at, prefix_at}
use Rattle.species_space.specs.Trees.{settings}

-- the best setting: it is lawful, no lawful setting has a lesser penalty, and it comes before every
-- other one of equal penalty in reading order
abbrev pub IsBest : Exercise → Sheet → List (List Cell) → Type 0
IsBest ex sheet = quests.IsBest (settings ex sheet)

-- the load of the least penalty, or with no lawful setting the number of all live prefixes, is
-- above the budget
abbrev pub IsOverBudget : Exercise → Sheet → ℕ → Type 0
IsOverBudget ex sheet = quests.IsOverBudget (settings ex sheet)

-- the least number whose load is above the budget; no lawful setting's penalty is lower, and the
-- load of the least penalty is above it too
abbrev pub IsLeastOver : Exercise → Sheet → ℕ → ℕ → Type 0
IsLeastOver ex sheet = quests.IsLeastOver (settings ex sheet)

-- the best setting, with its penalty, whose load is within the budget
abbrev pub IsBestWithin : Exercise → Sheet → ℕ → List (List Cell) → ℕ → Type 0
IsBestWithin ex sheet = quests.IsBestWithin (settings ex sheet)

-- nothing is lawful, and all live prefixes are within the budget
abbrev pub IsNothingWithin : Exercise → Sheet → ℕ → Type 0
IsNothingWithin ex sheet = quests.IsNothingWithin (settings ex sheet)

-- the answer of a search within a budget: spent exactly where it must be
abbrev pub IsExact : Exercise → Sheet → ℕ → Outcome → Type 0
IsExact ex sheet = quests.IsExact (settings ex sheet) (live_at ex sheet) (prefix_at ex)
