-- What is read of the newest columns, where the last of them comes after an orderly prefix: the
-- breaks and the costs that it settles.
use Rattle.std.specs.Prelude.{◌≡◌, ℕ, Bool, true, List, [], ◌∷◌, ◌++◌, length}
use Rattle.fux_grid.specs.declared.cell.Cell.{Cell}
use Rattle.fux_grid.specs.declared.exercise.Exercise.{Exercise}
use Rattle.fux_grid.specs.Columns.{Columns}
use Rattle.rule_law.specs.Newest.{AreNewestOf}
use Rattle.rule_law.specs.Prefixes.{GoesOn}
use Rattle.rule_law.specs.Rulebooks.{IsAmong, RuleRow, TollRow, newly_breaks, newly_costs}
use Rattle.rule_law.specs.declared.newest.NewestColumns.{NewestColumns}

-- at one of a rule's places: whether the last column settles a break of it there
abbrev pub TellsBreak : RuleRow → Exercise → ℕ → NewestColumns → ℕ → Bool → Type 0
TellsBreak it ex voices kept place told =
    (p : Columns) (col : List Cell) → AreNewestOf ex.voices (p ++ col ∷ []) kept → GoesOn ex p (col ∷ [])
    → IsAmong (it.first ex (length p)) (it.count ex (length p)) place → told ≡ newly_breaks it ex voices p col place

-- at one of a toll's places: what it settles of the toll's cost there, without the weight
abbrev pub TellsCost : TollRow → Exercise → NewestColumns → ℕ → ℕ → Type 0
TellsCost it ex kept place told =
    (p : Columns) (col : List Cell) → AreNewestOf ex.voices (p ++ col ∷ []) kept → GoesOn ex p (col ∷ [])
    → IsAmong (it.first ex (length p)) (it.count ex (length p)) place → told ≡ newly_costs it ex p col place

-- it settles breaks of a rule at none but so many places from a first one on
abbrev pub SettlesAmong : RuleRow → Exercise → NewestColumns → ℕ → ℕ → Type 0
SettlesAmong it ex kept first count =
    (p : Columns) (col : List Cell) → AreNewestOf ex.voices (p ++ col ∷ []) kept → GoesOn ex p (col ∷ [])
    → (voices i : ℕ) → newly_breaks it ex voices p col i ≡ true → IsAmong first count i
