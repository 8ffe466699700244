-- Menus: the columns that may stand at a place.
use Rattle.std.specs.Prelude.{◌≡◌, ℕ, ◌<◌, ◌/◌, Bool, true, false, ◌==◌, ◌&&◌, nat_le, int_le, List, [], ◌∷◌, ◌++◌, length, filter, map, slice_get, AllPairs, Contains, Option, Some, None, option_map, ⊤, if◌then◌else◌}
use Rattle.std.specs.List.{filter_map, flat_map, last_or, range_with_len}
use Rattle.std.specs.Option.{option_to_list, option_map_or}
use Rattle.std.specs.declared.cmp.Ordering.TheVariants.{Less}
use Rattle.fux_pitch.specs.declared.pitch.Pitch.{Pitch}
use Rattle.fux_pitch.specs.Pitch.{key_of}
use Rattle.fux_pitch.specs.Modes.{is_in_gamut}
use Rattle.fux_pitch.specs.Spelling.{spelled}
use Rattle.fux_grid.specs.declared.cell.Cell.{Cell}
use Rattle.fux_grid.specs.declared.cell.Cell.TheVariants.{Rest, Hold, Start}
use Rattle.fux_grid.specs.declared.exercise.Exercise.{Exercise}
use Rattle.fux_grid.specs.declared.exercise.RangeLine.{RangeLine}
use Rattle.fux_grid.specs.Cells.{cell_in}
use Rattle.fux_grid.specs.Exercises.{bar_of, slot_of, species_in, cantus_cell, given_at}
use Rattle.fux_grid.specs.Givens.{fits}
use Rattle.fux_grid.specs.Order.{column_order}
use Rattle.fux_grid.specs.Shapes.{allows, shapes_in}

-- bars, where they are given, cover a bar; else all bars are covered
abbrev pub covers : Option (ℕ × ℕ) → ℕ → Bool
covers None bar = true
covers (Some bars) bar = nat_le bars.0 bar && nat_le bar bars.1

-- the last range line of a voice that covers a bar
abbrev pub range_line : Exercise → ℕ → ℕ → Option RangeLine
range_line ex v bar = last_or None (filter (λ line. (line.voice == v) && covers line.bars bar) ex.ranges)

-- the low and the high end of a voice's range in a bar: those of that line
abbrev pub range_of : Exercise → ℕ → ℕ → Option (Pitch × Pitch)
range_of ex v bar = option_map {U = Pitch × Pitch} (λ line. (line.low, line.high)) (range_line ex v bar)

-- the pitch's key lies from that of one pitch to that of another
abbrev pub is_between : Pitch → Pitch → Pitch → Bool
is_between low high p = int_le (key_of low) (key_of p) && int_le (key_of p) (key_of high)

-- the pitch's key lies within the range of a voice in a bar
abbrev pub is_in_range : Exercise → ℕ → ℕ → Pitch → Bool
is_in_range ex v bar p = option_map_or (λ ends. is_between ends.0 ends.1 p) (range_of ex v bar) false

-- the pitch is in the bar's gamut and within the voice's range there
abbrev pub is_in_pool : Exercise → ℕ → ℕ → Pitch → Bool
is_in_pool ex v bar p = is_in_gamut ex.mode bar ex.bars p && is_in_range ex v bar p

-- the pool of a free voice in a bar: these pitches, by ascending key. A gamut spells no key
-- otherwise than MIDI keys are spelled
unfoldable pub pool_of : Exercise → ℕ → ℕ → List Pitch
pool_of ex v bar = filter (is_in_pool ex v bar) (filter_map spelled (range_with_len 24 73))

-- a cell that starts a pitch, or holds it
abbrev pub note_cell : Bool → Pitch → Cell
note_cell true p = Start p
note_cell false p = Hold p

-- what a free voice may do at a slot, in reading order: rest, hold or start a pitch of its pool, as
-- its shapes have it
abbrev pub free_cells : List (List ℕ) → ℕ → List Pitch → List Cell
free_cells shapes slot pool =
    (if allows shapes slot 82 then Rest ∷ [] else [])
    ++ (if allows shapes slot 72 then map Hold pool else [])
    ++ (if allows shapes slot 83 then map Start pool else [])

-- what the cantus may do at a column: it has one cell, of the bar's pitch
abbrev pub cantus_cells : Exercise → ℕ → List Cell
cantus_cells ex i = option_to_list (option_map (cantus_cell i) (slice_get ex.cantus (i / 8)))

-- what a free voice may do at a column before anything is given, in reading order
abbrev pub open_cells : Exercise → ℕ → ℕ → List Cell
open_cells ex i v = free_cells (shapes_in (species_in ex v) (bar_of i) ex.bars) (slot_of i) (pool_of ex v (bar_of i))

-- the cells that a voice may have at a column, in reading order: where a cell is given, only those
-- that fit it
unfoldable pub cells_at : Exercise → ℕ → ℕ → List Cell
cells_at ex i v =
    if v == ex.cantus_voice then cantus_cells ex i else filter (fits (given_at ex i v)) (open_cells ex i v)

-- every choice of one item from each list, those that differ first in an earlier list in the order
-- of that list
abbrev pub combinations : List (List Cell) → List (List Cell)
combinations [] = [] ∷ []
combinations (cells ∷ others) = flat_map (λ cell. map (λ rest. cell ∷ rest) (combinations others)) cells

-- the cells of each voice at a column, the lowest voice first
unfoldable pub choices_at : Exercise → ℕ → List (List Cell)
choices_at ex i = map (cells_at ex i) (range_with_len 0 ex.voices)

-- the menu of a column: each combination of its voices' cells, in reading order
unfoldable pub menu_of : Exercise → ℕ → List (List Cell)
menu_of ex i = combinations (choices_at ex i)

-- a column has one of its cells for each voice of the exercise
pub record IsInMenu (ex : Exercise) (i : ℕ) (col : List Cell) : Type 0 where
  pub full : length col ≡ ex.voices
  pub cells : (v : ℕ) → v < ex.voices → Contains (cells_at ex i v) (cell_in col v)

-- each column comes before all later ones in reading order
abbrev pub IsAscending : List (List Cell) → Type 0
IsAscending = AllPairs (λ c d. column_order c d ≡ Less)

-- a note starts in the cell
abbrev pub IsStart : Cell → Type 0
IsStart Rest = ⊥
IsStart (Hold p) = ⊥
IsStart (Start p) = ⊤

-- some column of the menu has a start of this voice
abbrev pub CanStart : Exercise → ℕ → ℕ → Type 0
CanStart ex v i = (col : List Cell) × Contains (menu_of ex i) col × IsStart (cell_in col v)
