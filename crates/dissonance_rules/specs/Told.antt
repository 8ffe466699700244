-- The first columns of a list: whether S15 is open in them.
use Rattle.std.specs.Prelude.{◌≡◌, ℕ, ◌+◌, ◌≤◌, Bool, List, [], ◌∷◌, ◌++◌, drop, slice_index_or, take}
use Rattle.fux_grid.specs.declared.cell.Cell.{Cell}
use Rattle.fux_grid.specs.declared.exercise.Exercise.{Exercise}
use Rattle.fux_grid.specs.Columns.{Columns}
use Rattle.rule_law.specs.Around.{AreKeptFrom}
use Rattle.rule_law.specs.declared.newest.NewestColumns.{NewestColumns}
use Rattle.dissonance_rules.specs.Clashes.{newly_passing}
use Rattle.dissonance_rules.specs.Passing.{is_open_clash}

-- for one way to name the voices S15 is open at column i in the first columns
abbrev pub is_open_within : Exercise → Columns → ℕ → ℕ → ℕ → ℕ → Bool
is_open_within ex s end i v w =
    is_open_clash ex i (slice_index_or s i []) (drop (i + 1) (take end s)) v w

-- whether the last column settles S15 at a place, and none before it did
abbrev pub TellsPassing : Exercise → ℕ → NewestColumns → ℕ → Bool → Type 0
TellsPassing ex voices kept place told =
    (p : Columns) (col : List Cell) (first : ℕ) → AreKeptFrom ex kept (p ++ col ∷ []) first → first ≤ place
    → told ≡ newly_passing ex voices p col place
