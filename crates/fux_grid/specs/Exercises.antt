-- Exercises, and which of them are valid.
use Rattle.std.specs.Prelude.{◌≡◌, ◌≢◌, ℕ, ◌*◌, ◌^◌, ◌/◌, ◌%◌, ◌+◌, ◌<◌, ◌≤◌, ◌≤ℤ◌, ◌==◌, ◌&&◌, Bool, List, [], ◌∷◌, All, AllPairs, filter, length, Option, option_map, Some, None, IfSome, IsSome, IsTrue, is_some, if◌then◌else◌, slice_get, slice_index_or}
use Rattle.std.specs.List.{find}
use Rattle.std.specs.Option.{option_map_or}
use Rattle.fux_pitch.specs.declared.pitch.Pitch.{Pitch}
use Rattle.fux_pitch.specs.Pitch.{key_of}
use Rattle.fux_grid.specs.declared.cell.Cell.{Cell}
use Rattle.fux_grid.specs.declared.cell.Cell.TheVariants.{Hold, Start}
use Rattle.fux_grid.specs.declared.exercise.Exercise.{Exercise}
use Rattle.fux_grid.specs.declared.given.Given.{Given}
use Rattle.fux_grid.specs.declared.given.Given.TheVariants.{Blank, Tied}
use Rattle.fux_grid.specs.declared.given.GivenBar.{GivenBar}
use Rattle.fux_grid.specs.declared.exercise.RangeLine.{RangeLine}
use Rattle.fux_grid.specs.declared.exercise.Relax.{Relax}
use Rattle.fux_grid.specs.Grid.{Grid}
use Rattle.fux_grid.specs.Cells.{cell_in}
use Rattle.fux_grid.specs.Givens.{fits, FollowOn, IsEarlier}

-- the number of columns of a setting
abbrev pub columns_in : Exercise → ℕ
columns_in ex = 8 * ex.bars

-- the bar of a column, counted from 1, and the slot in it
abbrev pub bar_of : ℕ → ℕ
bar_of i = i / 8 + 1

abbrev pub slot_of : ℕ → ℕ
slot_of i = i % 8

-- the rules of every exercise are numbered from 1 to this
abbrev pub greatest_rule : ℕ
greatest_rule = 26

-- with the rules of mixed exercises, they are numbered from 1 to this
abbrev pub greatest_mixed_rule : ℕ
greatest_mixed_rule = 28

-- the voice is free: it isn't the cantus
pub record IsFree (ex : Exercise) (v : ℕ) : Type 0 where
  pub there : v < ex.voices
  pub no_cantus : v ≢ ex.cantus_voice

-- each voice has a species of its own
abbrev pub is_mixed : Exercise → Bool
is_mixed ex = is_some ex.mixed

-- the species of a voice: where they are mixed its own, else the exercise's for the species voice
-- and 1 for the others
abbrev pub species_in : Exercise → ℕ → ℕ
species_in ex v =
    option_map_or (λ species. slice_index_or species v 1) ex.mixed (if v == ex.species_voice then ex.species else 1)

-- one of the five species
abbrev pub IsSpecies : ℕ → Type 0
IsSpecies n = (1 ≤ n) × (n ≤ 5)

-- these may be the species of the exercise's voices: one of the five for each free voice, and 1 for
-- the cantus
pub record AreSpecies (ex : Exercise) (species : List ℕ) : Type 0 where
  pub free : (v : ℕ) → IsFree ex v → IsSpecies (slice_index_or species v 1)
  pub cantus : slice_index_or species ex.cantus_voice 1 ≡ 1

-- the same exercise with these species of its voices, and without a setting
abbrev pub as_mixed : Exercise → List ℕ → Exercise
as_mixed ex species = record ex { mixed = Some species; setting = None }

-- bars of an exercise, from one to another
abbrev pub AreBars : Exercise → ℕ → ℕ → Type 0
AreBars ex from to = (1 ≤ from) × (from ≤ to) × (to ≤ ex.bars)

-- a range line is of a free voice and of bars of the exercise, and its high end isn't below its low
-- end
pub record IsRangeLine (ex : Exercise) (line : RangeLine) : Type 0 where
  pub free : IsFree ex line.voice
  pub rises : key_of line.low ≤ℤ key_of line.high
  pub within : IfSome line.bars (λ bars. AreBars ex bars.0 bars.1)

-- the range lines of a voice
abbrev pub range_lines : Exercise → ℕ → List RangeLine
range_lines ex v = filter (λ line. line.voice == v) ex.ranges

-- first one line for all bars, then lines for some bars
abbrev pub BeginsWithWhole : List RangeLine → Type 0
BeginsWithWhole [] = ⊥
BeginsWithWhole (line ∷ lines) = (line.bars ≡ None) × All (λ other. IsSome other.bars) lines

-- a relax line is of a rule from 4 on, of voices of the exercise and of its bars, at a price within
-- the limit
pub record IsRelax (ex : Exercise) (line : Relax) : Type 0 where
  pub least_rule : 4 ≤ line.rule
  pub most_rule : line.rule ≤ greatest_rule
  pub voices : IfSome line.voices (λ set. (1 ≤ set.bits) × (set.bits < 2 ^ ex.voices))
  pub within : AreBars ex line.from line.to
  pub price : line.price ≤ 10000

-- a bar that is given is of a free voice and of a bar of the exercise; a bar may begin with a tie,
-- and no held pitch stands behind anything but itself
pub record IsGivenBar (ex : Exercise) (line : GivenBar) : Type 0 where
  pub free : IsFree ex line.voice
  pub within : AreBars ex line.bar line.bar
  pub whole : length line.cells ≡ 8
  pub follow : FollowOn Tied line.cells

-- the bar that is given of a voice, where one is
abbrev pub given_bar : Exercise → ℕ → ℕ → Option GivenBar
given_bar ex v bar = find (λ line. (line.voice == v) && (line.bar == bar)) ex.given

-- what is given of a voice's cell at a column: nothing where no bar is given
unfoldable pub given_at : Exercise → ℕ → ℕ → Given
given_at ex i v = option_map_or (λ line. slice_index_or line.cells (slot_of i) Blank) (given_bar ex v (bar_of i)) Blank

-- each cell of a list of columns fits what is given there
abbrev pub FitsGiven : Exercise → List (List Cell) → Type 0
FitsGiven ex s = (i v : ℕ) → i < length s → v < ex.voices → IsTrue (fits (given_at ex i v) (cell_in (slice_index_or s i []) v))

-- the one cell that the cantus may have at a column: its pitch starts at slot 0 and is held
-- elsewhere
abbrev pub cantus_cell : ℕ → Pitch → Cell
cantus_cell i p = if slot_of i == 0 then Start p else Hold p

-- at this column of a list, the cell of the cantus voice is that of the bar's pitch
abbrev pub HasCantusAt : Exercise → List (List Cell) → ℕ → Type 0
HasCantusAt ex s i =
    option_map (cantus_cell i) (slice_get ex.cantus (i / 8)) ≡ Some (cell_in (slice_index_or s i []) ex.cantus_voice)

-- a list of columns has the cantus
abbrev pub HasCantus : Exercise → List (List Cell) → Type 0
HasCantus ex s = (i : ℕ) → i < length s → HasCantusAt ex s i

-- a score is complete: it has the exercise's voices and all columns
pub record IsComplete (ex : Exercise) (score : Grid) : Type 0 where
  pub voices : score.voices ≡ ex.voices
  pub whole : length score.columns ≡ columns_in ex

-- a setting that came with the exercise is complete and has the cantus
pub record IsGiven (ex : Exercise) (score : Grid) : Type 0 where
  pub complete : IsComplete ex score
  pub cantus : HasCantus ex score.columns

-- the exercise is within the limits
pub record IsValid (ex : Exercise) : Type 0 where
  pub fewest_voices : 2 ≤ ex.voices
  pub most_voices : ex.voices ≤ 4
  pub fewest_bars : 3 ≤ ex.bars
  pub most_bars : ex.bars ≤ 24
  pub least_species : 1 ≤ ex.species
  pub most_species : ex.species ≤ 5
  pub species_there : ex.species_voice < ex.voices
  pub cantus_there : ex.cantus_voice < ex.voices
  pub differ : ex.species_voice ≢ ex.cantus_voice
  pub mixed : IfSome ex.mixed (AreSpecies ex)
  pub whole_cantus : length ex.cantus ≡ ex.bars
  pub range_lines_fit : All (IsRangeLine ex) ex.ranges
  pub each_has_range : (v : ℕ) → IsFree ex v → BeginsWithWhole (range_lines ex v)
  pub relax_fit : All (IsRelax ex) ex.relax
  pub few_relax : length ex.relax ≤ 64
  pub given_fit : All (IsGivenBar ex) ex.given
  pub given_ascend : AllPairs IsEarlier ex.given
  pub setting : IfSome ex.setting (IsGiven ex)
  pub setting_fits : IfSome ex.setting (λ score. FitsGiven ex score.columns)
