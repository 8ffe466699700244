-- The tolls Q15 and Q16: ligatures that are missing, and bars that repeat the bar before.
use Rattle.std.specs.Prelude.{ℕ, ◌-◌, ◌==◌, Bool, not, ◌&&◌, ◌||◌, nat_le, nat_lt, List, [], ◌∷◌, length, slice_index_or}
use Rattle.std.specs.List.{list_all}
use Rattle.fux_grid.specs.declared.cell.Cell.{Cell}
use Rattle.fux_grid.specs.declared.cell.Cell.TheVariants.{Rest}
use Rattle.fux_grid.specs.declared.exercise.Exercise.{Exercise}
use Rattle.fux_grid.specs.Cells.{cell_in, same_cell}
use Rattle.fux_grid.specs.Exercises.{slot_of, species_in}
use Rattle.rule_law.specs.Bars.{begins_bar, begins_inner_bar}
use Rattle.rule_law.specs.Places.{Row}
use Rattle.rule_law.specs.Nearby.{NearRow}
use Rattle.rule_law.specs.Terms.{starts}
use Rattle.rule_law.specs.Voices.{count_free}

-- at the beginning of a bar that is neither the first nor the last a voice of species 4 starts a
-- note
abbrev pub lacks_ligature : Exercise → ℕ → List Cell → ℕ → Bool
lacks_ligature ex i now v = begins_inner_bar ex i && (species_in ex v == 4) && starts (cell_in now v)

-- Q15: in so many free voices
unfoldable pub missing_ligatures : Exercise → ℕ → List Cell → ℕ
missing_ligatures ex i now = count_free ex (λ v. nat_lt v ex.voices && lacks_ligature ex i now v)

abbrev pub ligature_toll : Exercise → NearRow ℕ
ligature_toll ex i before previous now = missing_ligatures ex i now

-- at a slot of the bar that begins here a voice has the cell that it had at that slot of the bar
-- before
abbrev pub repeats_slot : ℕ → List (List Cell) → List Cell → List (List Cell) → ℕ → Bool
repeats_slot v behind now ahead slot =
    same_cell (cell_in (slice_index_or behind (7 - slot) []) v)
    (cell_in (slice_index_or (now ∷ ahead) slot []) v)

-- the bar that begins here is whole, and repeats the bar before in all its eight slots
abbrev pub repeats_bar : ℕ → List (List Cell) → List Cell → List (List Cell) → Bool
repeats_bar v behind now ahead =
    nat_le 7 (length ahead)
    && list_all (repeats_slot v behind now ahead) (0 ∷ 1 ∷ 2 ∷ 3 ∷ 4 ∷ 5 ∷ 6 ∷ 7 ∷ [])

-- at the beginning of a bar that isn't the first a voice of species 2 to 5 repeats the bar before
abbrev pub is_pattern : ℕ → Exercise → Row Bool
is_pattern v ex i behind now ahead =
    begins_bar i && nat_le 8 i && nat_le 2 (species_in ex v) && repeats_bar v behind now ahead

-- Q16: so many free voices do
unfoldable pub pattern_toll : Exercise → Row ℕ
pattern_toll ex i behind now ahead = count_free ex (λ v. nat_lt v ex.voices && is_pattern v ex i behind now ahead)

-- at the beginning of a bar it is settled once the bar is whole
abbrev pub pattern_enough : Exercise → Row Bool
pattern_enough ex i behind now ahead = not (begins_bar i) || nat_le 7 (length ahead)

-- two lists have the same cells at each of eight places
abbrev pub same_cells : List Cell → List Cell → Bool
same_cells xs ys =
    list_all (λ k. same_cell (slice_index_or xs k Rest) (slice_index_or ys k Rest))
    (7 ∷ 6 ∷ 5 ∷ 4 ∷ 3 ∷ 2 ∷ 1 ∷ 0 ∷ [])

-- the last column of a bar settles the bar, from the second bar on
abbrev pub settles_pattern : ℕ → Bool
settles_pattern i = (slot_of i == 7) && nat_le 15 i
