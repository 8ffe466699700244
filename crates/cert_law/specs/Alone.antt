-- What columns break by themselves.
use Rattle.std.specs.Prelude.{◌≡◌, ℕ, ◌<◌, List, [], Option, None, IfSome, length, slice_index_or}
use Rattle.fux_grid.specs.declared.cell.Cell.{Cell}
use Rattle.fux_grid.specs.declared.exercise.Exercise.{Exercise}
use Rattle.fux_grid.specs.Menus.{menu_of}
use Rattle.fux_judge.specs.Told.{least_alone}

-- what is told, if it is, is the least of S10, S11, S13 and S14 that a column of a place breaks by
-- itself, or that it breaks none
abbrev pub IsAlone : Exercise → ℕ → List Cell → Option (Option ℕ) → Type 0
IsAlone ex i col told = IfSome told (λ least. least ≡ least_alone ex i col)

-- this is it for each column of a place by its number, and for each place
abbrev pub IsAloneRow : Exercise → ℕ → List (Option ℕ) → Type 0
IsAloneRow ex i row =
    (k : ℕ) → k < length row → slice_index_or row k None ≡ least_alone ex i (slice_index_or (menu_of ex i) k [])

abbrev pub AreAlone : Exercise → List (List (Option ℕ)) → Type 0
AreAlone ex rows = (i : ℕ) → i < length rows → IsAloneRow ex i (slice_index_or rows i [])
