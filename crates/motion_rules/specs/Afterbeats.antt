-- S18: equal perfect intervals at the beginnings of two bars in a row, with nothing between that
-- hides them.
use Rattle.std.specs.Prelude.{ℕ, ◌==◌, Bool, true, ◌&&◌, ◌||◌, nat_le, List, [], ◌∷◌, Option, Some, map, slice_index_or}
use Rattle.std.specs.List.{list_all}
use Rattle.fux_pitch.specs.declared.pitch.Pitch.{Pitch}
use Rattle.fux_grid.specs.declared.cell.Cell.{Cell}
use Rattle.fux_grid.specs.declared.cell.Cell.TheVariants.{Rest, Hold, Start}
use Rattle.fux_grid.specs.declared.exercise.Exercise.{Exercise}
use Rattle.fux_grid.specs.Cells.{cell_in, pitch_of}
use Rattle.fux_grid.specs.Exercises.{species_in}
use Rattle.rule_law.specs.Bars.{bar_line_before, begins_bar}
use Rattle.rule_law.specs.Places.{Row, at_once}
use Rattle.rule_law.specs.Terms.{degrees_without_sign, differs, equal_perfects, holds_of, interval_in, interval_of_pitches}
use Rattle.rule_law.specs.Voices.{on_pair}

-- species 2, 3 and 5 go on within the bar
abbrev pub moves_within_bars : ℕ → Bool
moves_within_bars species = (species == 2) || (species == 3) || (species == 5)

-- a voice has such a species
abbrev pub goes_within_bars : Exercise → ℕ → Bool
goes_within_bars ex v = moves_within_bars (species_in ex v)

-- a cell that starts a note starts one within two degrees of the pitch
abbrev pub stays_near : Option Pitch → Cell → Bool
stays_near p Rest = true
stays_near p (Hold q) = true
stays_near p (Start q) = holds_of (λ k. nat_le (degrees_without_sign k) 2) (interval_of_pitches p (Some q))

-- the cells of a voice in the seven newest columns, from the newest one on
abbrev pub newest_cells : List (List Cell) → ℕ → List Cell
newest_cells behind v = map (λ k. cell_in (slice_index_or behind k []) v) (0 ∷ 1 ∷ 2 ∷ 3 ∷ 4 ∷ 5 ∷ 6 ∷ [])

-- each note that the cells start stays within two degrees of the pitch
abbrev pub never_leaves : Option Pitch → List Cell → Bool
never_leaves p cells = list_all (stays_near p) cells

-- from one column to another both voices have gone to other pitches, from a perfect interval to an
-- equal one
abbrev pub arrive_in_parallel : List Cell → List Cell → ℕ → ℕ → Bool
arrive_in_parallel before now v w =
    equal_perfects (interval_in before v w) (interval_in now v w)
    && differs (pitch_of (cell_in before v)) (pitch_of (cell_in now v))
    && differs (pitch_of (cell_in before w)) (pitch_of (cell_in now w))

-- at the beginning of a bar that isn't the first, two voices have arrived so since the beginning of
-- the bar before
abbrev pub arrive_at_bar : ℕ → List Cell → List Cell → ℕ → ℕ → Bool
arrive_at_bar i bar_line now v w = begins_bar i && nat_le 8 i && arrive_in_parallel bar_line now v w

-- a voice goes on within bars, and the notes that it starts since the beginning of the bar before
-- stay near the pitch that it sounds there
abbrev pub stays_since_bar : Exercise → List (List Cell) → ℕ → Bool
stays_since_bar ex behind v =
    goes_within_bars ex v && never_leaves (pitch_of (cell_in (bar_line_before behind) v)) (newest_cells behind v)

-- S18: they have arrived so, and one of them goes on within bars and stays near; one such voice is
-- enough
abbrev pub is_bare_parallel : Exercise → ℕ → List (List Cell) → List Cell → ℕ → ℕ → Bool
is_bare_parallel ex i behind now v w =
    arrive_at_bar i (bar_line_before behind) now v w && (stays_since_bar ex behind v || stays_since_bar ex behind w)

abbrev pub afterbeat_row : Exercise → ℕ → Row Bool
afterbeat_row ex voices i behind now ahead = on_pair ex (is_bare_parallel ex i behind now) voices

-- it is settled at once
abbrev pub afterbeat_enough : Exercise → ℕ → Row Bool
afterbeat_enough ex voices = at_once
