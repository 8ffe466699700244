-- What is kept of a path, and the steps that go on from it.
use Rattle.std.specs.Prelude.{ℕ, ◌+◌, zero, suc, List, [], ◌∷◌, Option, Some, None, option_and_then, slice_get, slice_index_or, if◌then◌else◌}
use Rattle.fux_grid.specs.declared.cell.Cell.{Cell}
use Rattle.fux_grid.specs.declared.exercise.Exercise.{Exercise}
use Rattle.fux_grid.specs.Menus.{menu_of}
use Rattle.penalty_sheet.specs.declared.sheet.Sheet.{Sheet}
use Rattle.fux_judge.specs.Links.{link_of}
use Rattle.chain_sums.specs.Chains.{cells_of}
use Rattle.open_ends.specs.declared.keeps.Keeps.{Keeps}
use Rattle.open_ends.specs.Ends.{OpenEnds, ends_after, ends_in}
use Rattle.species_space.specs.Paths.{column_follows, prefix_at}
use Rattle.priced_floors.specs.declared.kept.Kept.{Kept}

-- the last number of a path, where it has one
abbrev pub last_number : List ℕ → Option ℕ
last_number [] = None
last_number (k ∷ []) = Some k
last_number (k ∷ l ∷ path) = last_number (l ∷ path)

-- what is kept of a path
abbrev pub kept_of : Exercise → Keeps → List ℕ → Kept
kept_of ex keeps path = record { column = last_number path; ends = ends_in ex keeps (prefix_at ex path) }

-- the column that is kept where so many were chosen, if one is
abbrev pub column_kept : Exercise → ℕ → Kept → Option (List Cell)
column_kept ex zero kept = None
column_kept ex (suc i) kept = option_and_then (slice_get (menu_of ex i)) kept.column

-- what is kept behind a column, and what the step costs: what the kept tolls and the two columns
-- do; none where one of them isn't there
abbrev pub kept_with : ℕ → Option (OpenEnds × ℕ) → Option ℕ → Option (Kept × ℕ)
kept_with k None own = None
kept_with k (Some ends) None = None
kept_with k (Some ends) (Some own) = Some (record { column = Some k; ends = ends.0 }, own + ends.1)

-- the step of a number, whose column follows: it breaks no rule by what is kept, makes no strict
-- break with the one before it, and settles at least what it costs
abbrev pub step_on : Exercise → Sheet → Keeps → ℕ → Kept → ℕ → Option (List Cell) → Option (Kept × ℕ)
step_on ex sheet keeps i kept k before =
    kept_with k (ends_after ex sheet keeps i kept.ends (cells_of before) (slice_index_or (menu_of ex i) k []))
    (link_of ex sheet i before (slice_index_or (menu_of ex i) k []))

-- the step of a number, where its column follows
unfoldable pub step_of : Exercise → Sheet → Keeps → ℕ → Kept → ℕ → Option (Kept × ℕ)
step_of ex sheet keeps i kept k =
    if column_follows (cells_of (column_kept ex i kept)) (slice_index_or (menu_of ex i) k [])
    then step_on ex sheet keeps i kept k (column_kept ex i kept) else None
