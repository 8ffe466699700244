-- What floors promise.
use Rattle.std.specs.Prelude.{◌≡◌, ℕ, ◌≤◌, List, [], ◌∷◌, ◌++◌, Some, IsSomeAnd}
use Rattle.fux_grid.specs.declared.cell.Cell.{Cell}
use Rattle.fux_grid.specs.declared.exercise.Exercise.{Exercise}
use Rattle.penalty_sheet.specs.declared.sheet.Sheet.{Sheet}
use Rattle.fux_judge.specs.Lawful.{IsLawful}
use Rattle.fux_judge.specs.Penalties.{penalty_of}
use Rattle.floor_tables.specs.Floors.{IsLive, floor_of}

-- each prefix that begins a lawful setting is live, and its floor is at most that setting's
-- penalty; a live prefix that is one column longer has no lower floor; and the floor of a lawful
-- setting is its penalty
pub record HasFloors (ex : Exercise) (sheet : Sheet) : Type 0 where
  pub live : (p more : List (List Cell)) → IsLawful ex (p ++ more) → IsLive ex sheet p
  pub low : (p more : List (List Cell)) → IsLawful ex (p ++ more)
      → IsSomeAnd (floor_of ex sheet p) (λ floor. floor ≤ penalty_of ex sheet (p ++ more))
  pub grow : (p : List (List Cell)) (col : List Cell) (floor : ℕ) → IsLive ex sheet (p ++ col ∷ [])
      → floor_of ex sheet (p ++ col ∷ []) ≡ Some floor → IsSomeAnd (floor_of ex sheet p) (λ own. own ≤ floor)
  pub end : (s : List (List Cell)) → IsLawful ex s → floor_of ex sheet s ≡ Some (penalty_of ex sheet s)
