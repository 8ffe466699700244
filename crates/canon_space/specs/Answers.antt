-- What a search for the best canon tells within a budget, which is spent exactly where it must be.
-- Loads are counted over the bars that begin a canon and break no rule.
use Rattle.std.specs.Prelude.{ℕ, List}
use Rattle.fux_grid.specs.declared.cell.Cell.{Cell}
use Rattle.penalty_sheet.specs.declared.sheet.Sheet.{Sheet}
use Rattle.tree_search.specs.Quests as quests
use Rattle.canon_space.specs.declared.canon.Canon.{Canon}
use Rattle.canon_space.specs.Paths.{bars_at, live_at}
use Rattle.canon_space.specs.Trees.{canons}

-- the best canon with its penalty, whose load is within the budget
abbrev pub IsBestWithin : Canon → Sheet → ℕ → List (List Cell) → ℕ → Type 0
IsBestWithin canon sheet = quests.IsBestWithin (canons canon sheet)

-- a live path to it
abbrev pub LeadsToBest : Canon → Sheet → ℕ → List ℕ → ℕ → Type 0
LeadsToBest canon sheet = quests.LeadsToBest (canons canon sheet) (live_at canon sheet) bars_at

-- no canon is lawful, and all bars that begin one are within the budget
abbrev pub IsNothingWithin : Canon → Sheet → ℕ → Type 0
IsNothingWithin canon sheet = quests.IsNothingWithin (canons canon sheet)

-- the least number whose load is above the budget; no lawful canon's penalty is lower
abbrev pub IsLeastOver : Canon → Sheet → ℕ → ℕ → Type 0
IsLeastOver canon sheet = quests.IsLeastOver (canons canon sheet)
