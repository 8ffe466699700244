-- S15: notes that start within a bar and clash, and what makes them good: passing notes, neighbors
-- and the cambiata.
use Rattle.std.specs.Prelude.{ℕ, ◌+◌, ◌-◌, ◌*◌, ◌==◌, Bool, false, not, ◌&&◌, ◌||◌, nat_lt, List, [], length, Option, Some, None, is_some, if◌then◌else◌, slice_index_or}
use Rattle.fux_pitch.specs.declared.pitch.Pitch.{Pitch}
use Rattle.fux_pitch.specs.declared.interval.Interval.{Interval}
use Rattle.fux_pitch.specs.Pitch.{same_pitch}
use Rattle.fux_pitch.specs.Size.{interval_between}
use Rattle.fux_grid.specs.declared.cell.Cell.{Cell}
use Rattle.fux_grid.specs.declared.cell.Onset.{Onset}
use Rattle.fux_grid.specs.declared.exercise.Exercise.{Exercise}
use Rattle.fux_grid.specs.Cells.{cell_in, pitch_of}
use Rattle.fux_grid.specs.Columns.{line}
use Rattle.fux_grid.specs.Exercises.{is_mixed, species_in}
use Rattle.rule_law.specs.After.{next_onset, onset_pitch, second_next_onset}
use Rattle.rule_law.specs.Bars.{begins_bar}
use Rattle.rule_law.specs.Degrees.{lies_above}
use Rattle.rule_law.specs.Places.{reading_of}
use Rattle.rule_law.specs.Terms.{clash, falls, holds_of, interval_of_pitches, is_clean, is_step, previous_pitch, same_way, starts}
use Rattle.rule_law.specs.Voices.{is_free}

-- the test holds of the move from a first pitch to a second and of the move from the second to a
-- third, where there are all three
abbrev pub on_two_moves : (Interval → Interval → Bool) → Option Pitch → Option Pitch → Option Pitch → Bool
on_two_moves test None q r = false
on_two_moves test (Some p) None r = false
on_two_moves test (Some p) (Some q) None = false
on_two_moves test (Some p) (Some q) (Some r) = test (interval_between p q) (interval_between q r)

-- there are both pitches, and they are one
abbrev pub are_same : Option Pitch → Option Pitch → Bool
are_same None q = false
are_same (Some p) None = false
are_same (Some p) (Some q) = same_pitch p q

-- a passing note: the move to it and the move from it are steps the same way
abbrev pub is_passing : Option Pitch → Option Pitch → Option Pitch → Bool
is_passing = on_two_moves (λ i j. is_step i && is_step j && same_way i j)

-- a neighbor: both are steps, and the next note has the pitch of the previous one
abbrev pub is_neighbor : Option Pitch → Option Pitch → Option Pitch → Bool
is_neighbor previous here next =
    on_two_moves (λ i j. is_step i && is_step j) previous here next && are_same previous next

-- there are both pitches, and the second is a step below the first
abbrev pub falls_by_step : Option Pitch → Option Pitch → Bool
falls_by_step p q = holds_of (λ i. is_step i && falls i) (interval_of_pitches p q)

-- a cambiata: the note falls by a step; the next note lies two degrees below it, and is clean at
-- its start; the note after that lies one degree above the next
abbrev pub is_cambiata : Option Pitch → Option Pitch → Option Pitch → Bool → Option Pitch → Bool
is_cambiata previous here next clean after =
    falls_by_step previous here && lies_above 2 here next && clean && lies_above 1 after next

-- as far as the next note a note may be one: it falls by a step, and the next note lies two degrees
-- below it
abbrev pub bends_down : Option Pitch → Option Pitch → Option Pitch → Bool
bends_down previous here next = falls_by_step previous here && lies_above 2 here next

-- in species 3 and 5 neighbors and cambiatas are good too
abbrev pub has_ornaments : ℕ → Bool
has_ornaments species = (species == 3) || (species == 5)

-- a note is good: a passing note, or in species 3 and 5 a neighbor or a cambiata
abbrev pub is_good : ℕ → Option Pitch → Option Pitch → Option Pitch → Bool → Option Pitch → Bool
is_good species previous here next clean after =
    is_passing previous here next
    || (has_ornaments species
    && (is_neighbor previous here next || is_cambiata previous here next clean after))

-- a voice is clean at this start of a note after column i, where there is one
abbrev pub starts_clean : ℕ → List (List Cell) → ℕ → Option Onset → Bool
starts_clean i ahead v None = false
starts_clean i ahead v (Some onset) = is_clean (slice_index_or ahead (onset.start - (i + 1)) []) v

-- a voice is clean where its next note after column i starts
abbrev pub next_is_clean : ℕ → List (List Cell) → ℕ → Bool
next_is_clean i ahead v = starts_clean i ahead v (next_onset i v ahead)

-- the note of a voice at column i, among the notes of its line, is good
abbrev pub is_good_note : ℕ → ℕ → List (List Cell) → List Cell → List (List Cell) → ℕ → Bool
is_good_note species i behind now ahead v =
    is_good species
    (previous_pitch (line v behind)) (pitch_of (cell_in now v)) (onset_pitch (next_onset i v ahead))
    (next_is_clean i ahead v) (onset_pitch (second_next_onset i v ahead))

-- the same of a voice of an exercise
abbrev pub is_good_in : Exercise → ℕ → List (List Cell) → List Cell → List (List Cell) → ℕ → Bool
is_good_in ex i behind now ahead v = is_good_note (species_in ex v) i behind now ahead v

-- a free voice starts a note that isn't good
abbrev pub starts_badly : Exercise → ℕ → List (List Cell) → List Cell → List (List Cell) → ℕ → Bool
starts_badly ex i behind now ahead v =
    starts (cell_in now v) && is_free ex v && not (is_good_in ex i behind now ahead v)

-- a note of v starts, and it clashes with w
abbrev pub starts_in_clash : List Cell → ℕ → ℕ → Bool
starts_in_clash now v w = starts (cell_in now v) && clash now v w

-- S15, for one way to name the voices, where one species is given: a note of v starts within a bar
-- and clashes with w, and isn't good
abbrev pub clashes_badly : Exercise → ℕ → List (List Cell) → List Cell → List (List Cell) → ℕ → ℕ → Bool
clashes_badly ex i behind now ahead v w =
    not (is_mixed ex)
    && not (begins_bar i)
    && starts_in_clash now v w
    && not (is_good_in ex i behind now ahead v)

-- at column i of a list
abbrev pub clashes_badly_at : Exercise → List (List Cell) → ℕ → ℕ → ℕ → Bool
clashes_badly_at ex = reading_of (clashes_badly ex)

-- the list has a column of the last bar
abbrev pub reaches_last_bar : Exercise → ℕ → List (List Cell) → Bool
reaches_last_bar ex i ahead = nat_lt (8 * (ex.bars - 1)) (i + 1 + length ahead)

-- how many notes of a voice after a clash tell what the note there is: two in species 3 and 5, else
-- one
abbrev pub notes_needed : ℕ → ℕ
notes_needed species = if has_ornaments species then 2 else 1

-- the list has as many notes of v after column i as tell what the note there is: one, or two in
-- species 3 and 5
abbrev pub has_notes_after : ℕ → ℕ → ℕ → List (List Cell) → Bool
has_notes_after species i v ahead =
    if has_ornaments species then is_some (second_next_onset i v ahead) else is_some (next_onset i v ahead)

-- for one way to name the voices S15 is told: at once where no note of v starts that clashes with
-- w, else once as many notes of v came after it as tell what it is, or a column of the last bar did
abbrev pub is_told : Exercise → ℕ → List Cell → List (List Cell) → ℕ → ℕ → Bool
is_told ex i now ahead v w =
    not (starts_in_clash now v w)
    || has_notes_after (species_in ex v) i v ahead
    || reaches_last_bar ex i ahead

-- it is open until then
abbrev pub is_open_clash : Exercise → ℕ → List Cell → List (List Cell) → ℕ → ℕ → Bool
is_open_clash ex i now ahead v w = not (is_told ex i now ahead v w)
