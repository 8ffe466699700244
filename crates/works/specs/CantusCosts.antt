-- What a new cantus costs and what the book's tolls and gauges do: read as a free voice of first
-- species alone, whose notes each fill a bar, it pays just what the book's tolls of one voice and
-- the gauges of its line cost, and beyond that the prices of a cantus alone.
use Rattle.std.specs.Prelude.{◌≡◌, ℕ, ◌+◌, List, [], ◌∷◌, ◌++◌, None, length, map, reverse}
use Rattle.works.specs.BookCosts.{tolls_in_bar, voice_tolls}
use Rattle.canon_space.specs.Rules.{columns_of}
use Rattle.cantus_space.specs.declared.plan.CantusPlan.{CantusPlan}
use Rattle.cantus_space.specs.Lawful.{penalty_of}
use Rattle.cantus_space.specs.Melody.{charged, ends_cost}
use Rattle.cantus_space.specs.Rules.{floor_of, least_gauges, least_melody, note_cost}
use Rattle.fux_grid.specs.declared.cell.Cell.{Cell}
use Rattle.fux_grid.specs.declared.cell.Cell.TheVariants.{Start}
use Rattle.fux_grid.specs.declared.exercise.Exercise.{Exercise}
use Rattle.fux_judge.specs.Gauges.{cells_of_voice, cost_of_line}
use Rattle.fux_pitch.specs.declared.pitch.Pitch.{Pitch}
use Rattle.rule_law.specs.Growth.{sum_below}

-- an exercise of first species with one voice, which isn't its cantus
abbrev pub alone : CantusPlan → Exercise
alone plan = record {
  mode = plan.mode;
  voices = 1;
  bars = plan.bars;
  species = 1;
  species_voice = 0;
  mixed = None;
  cantus_voice = 1;
  cantus = [];
  ranges = [];
  relax = [];
  given = [];
  setting = None;
}

-- a bar of one note, and the bars of pitches
abbrev pub note_bar : Pitch → List Cell
note_bar p = Start p ∷ []

abbrev pub bars_of : List Pitch → List (List Cell)
bars_of pitches = map note_bar pitches

-- what the book's tolls of one voice cost in a bar of these pitches, each by its weight
abbrev pub voice_paid : CantusPlan → List Pitch → ℕ → ℕ
voice_paid plan pitches = tolls_in_bar voice_tolls (alone plan) plan.sheet (bars_of pitches)

-- what they cost in all of their bars
abbrev pub tolls_paid : CantusPlan → List Pitch → ℕ
tolls_paid plan pitches = sum_below (voice_paid plan pitches) (length pitches)

-- a pitch after others, which go from the newest to the oldest, costs what these tolls cost in its
-- bar, whatever comes after it
abbrev pub NoteCostsAreTheBooks : Type 0
NoteCostsAreTheBooks =
    (plan : CantusPlan) (behind : List Pitch) (p : Pitch) (after : List Pitch)
    → note_cost plan.sheet behind p ≡ voice_paid plan (reverse behind ++ p ∷ after) (length behind)

-- a cantus costs what they cost in all bars, what the book's gauges say of its line, and what it pays
-- of C1 to C6
abbrev pub CantusPenaltyIsTheBooks : Type 0
CantusPenaltyIsTheBooks =
    (plan : CantusPlan) (cantus : List Pitch)
    → penalty_of plan cantus
    ≡ tolls_paid plan cantus + cost_of_line plan.sheet (cells_of_voice (columns_of (bars_of cantus)) 0)
    + (charged plan.prices (reverse cantus) + ends_cost plan.prices plan.bars (reverse cantus))

-- and the floor of pitches that begin one is what they cost so far, what is known of the gauges, and
-- what they pay of C1 to C6 at least
abbrev pub CantusFloorIsTheBooks : Type 0
CantusFloorIsTheBooks =
    (plan : CantusPlan) (front : List Pitch)
    → floor_of plan (reverse front)
    ≡ tolls_paid plan front + least_gauges plan (reverse front) + least_melody plan (reverse front)
