-- Clashes within a bar that wait for the next note of their voice.
use Rattle.std.specs.Prelude.{ℕ, Bool, not, ◌&&◌, ◌||◌, List, [], ◌∷◌, Option, None, is_some, length, reverse, if◌then◌else◌}
use Rattle.fux_pitch.specs.declared.pitch.Pitch.{Pitch}
use Rattle.fux_grid.specs.declared.cell.Cell.{Cell}
use Rattle.fux_grid.specs.declared.exercise.Exercise.{Exercise}
use Rattle.fux_grid.specs.Cells.{cell_in, pitch_of}
use Rattle.fux_grid.specs.Columns.{newest_column}
use Rattle.fux_grid.specs.Exercises.{is_mixed, species_in}
use Rattle.rule_law.specs.Bars.{begins_bar}
use Rattle.rule_law.specs.Degrees.{lies_above}
use Rattle.rule_law.specs.Terms.{holds_of, interval_of_pitches, is_clean, is_step, starts}
use Rattle.dissonance_rules.specs.Clashes.{passing_rule}
use Rattle.dissonance_rules.specs.Passing.{falls_by_step, has_ornaments, is_neighbor, is_passing}
use Rattle.open_ends.specs.declared.passing.OpenPassing.{OpenPassing}
use Rattle.open_ends.specs.Asked.{is_asked}
use Rattle.open_ends.specs.Parts.{Step, Waits, where_read}

-- a note of the voice starts within a bar, and clashes with another voice
abbrev pub begins_in_clash : ℕ → List Cell → ℕ → Bool
begins_in_clash i now v = not (begins_bar i) && starts (cell_in now v) && not (is_clean now v)

-- the pitch that the voice sounded before its newest note, if that note began within a bar in a
-- clash. The columns go from the newest to the oldest
abbrev pub passing_in : List (List Cell) → ℕ → Option Pitch
passing_in [] v = None
passing_in (col ∷ behind) v =
    if starts (cell_in col v) then (if begins_in_clash (length behind) col v
    then pitch_of (cell_in (newest_column behind) v)
    else None)
    else passing_in behind v

-- the same after one column more, where this pitch waited before it
abbrev pub passing_after : ℕ → Option Pitch → List Cell → List Cell → ℕ → Option Pitch
passing_after i waiting before now v =
    if starts (cell_in now v) then (if begins_in_clash i now v then pitch_of (cell_in before v) else None) else waiting

-- the first three notes of a cambiata
abbrev pub begins_cambiata : Option Pitch → Option Pitch → Option Pitch → Bool → Bool
begins_cambiata previous here next clean = falls_by_step previous here && lies_above 2 here next && clean

-- as far as the next note tells, a note is good: a passing note, or in species 3 and 5 a neighbor
-- or one in a cambiata
abbrev pub may_be_good : ℕ → Option Pitch → Option Pitch → Option Pitch → Bool → Bool
may_be_good species previous here next clean =
    is_passing previous here next
    || (has_ornaments species && (is_neighbor previous here next || begins_cambiata previous here next clean))

-- the voice leaves a note that waits, and so it isn't good
abbrev pub is_left_badly : ℕ → Option Pitch → List Cell → List Cell → ℕ → Bool
is_left_badly species waiting before now v =
    is_some waiting
    && starts (cell_in now v)
    && not (may_be_good species waiting (pitch_of (cell_in before v)) (pitch_of (cell_in now v)) (is_clean now v))

-- it comes to a clash by no step: no note after that makes it good
abbrev pub is_reached_badly : ℕ → List Cell → List Cell → ℕ → Bool
is_reached_badly i before now v =
    begins_in_clash i now v
    && not (holds_of is_step (interval_of_pitches (pitch_of (cell_in before v)) (pitch_of (cell_in now v))))

-- ---- the part

-- nothing waits
abbrev pub nothing : OpenPassing
nothing = record { origin = None }

-- S15 is read of one species alone
abbrev pub is_read : Exercise → Bool
is_read ex = not (is_mixed ex) && is_asked ex passing_rule

-- what waits of the species voice behind some columns, if S15 is asked
abbrev pub open_in : Waits OpenPassing
open_in ex keeps p =
    if is_read ex then record { origin = passing_in (reverse p) ex.species_voice } else nothing

-- a column breaks S15 in every setting that goes on so: it leaves badly what waits, or reaches a
-- clash badly
abbrev pub breaks_passing : Exercise → ℕ → OpenPassing → List Cell → List Cell → Bool
breaks_passing ex i waiting before now =
    is_left_badly (species_in ex ex.species_voice) waiting.origin before now ex.species_voice
    || is_reached_badly i before now ex.species_voice

-- what waits with one column more
abbrev pub still_open : Exercise → ℕ → OpenPassing → List Cell → List Cell → OpenPassing
still_open ex i waiting before now =
    record { origin = passing_after i waiting.origin before now ex.species_voice }

abbrev pub open_after : Step OpenPassing
open_after ex keeps i waiting before now =
    where_read (is_read ex) (breaks_passing ex i waiting before now) nothing
    (still_open ex i waiting before now)
