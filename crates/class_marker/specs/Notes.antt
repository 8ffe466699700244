-- Which notes of a voice show a break.
use Rattle.std.specs.Prelude.{ℕ, ◌+◌, ◌-◌, ◌==◌, ◌||◌, Bool, List, [], ◌∷◌, ◌++◌, Option, Some, None, nat_lt, take, unsigned_abs, if◌then◌else◌}
use Rattle.std.specs.Option.{option_map_or}
use Rattle.fux_pitch.specs.declared.pitch.Pitch.{Pitch}
use Rattle.fux_pitch.specs.Size.{interval_between}
use Rattle.fux_grid.specs.declared.cell.Cell.{Cell}
use Rattle.fux_grid.specs.declared.cell.Note.{Note}
use Rattle.fux_grid.specs.declared.cell.Onset.{Onset}
use Rattle.fux_grid.specs.declared.exercise.Exercise.{Exercise}
use Rattle.fux_grid.specs.Cells.{first_of, is_start}
use Rattle.fux_grid.specs.Columns.{cell_at, notes_up_to, onsets_since}
use Rattle.fux_grid.specs.Exercises.{species_in}
use Rattle.rule_law.specs.Terms.{opposite_ways}

-- where the latest note of a voice starts that starts before a column; the column, where none does
abbrev pub start_before : List (List Cell) → ℕ → ℕ → ℕ
start_before s v n = option_map_or (λ note. note.start) (first_of (notes_up_to s v n)) n

-- where the note of a voice starts that sounds at a column, the one before it, and the one before
-- that; where the voice rests, its latest notes are meant
abbrev pub latest_start : List (List Cell) → ℕ → ℕ → ℕ
latest_start s v i = start_before s v (i + 1)

abbrev pub previous_start : List (List Cell) → ℕ → ℕ → ℕ
previous_start s v i = start_before s v (latest_start s v i)

abbrev pub third_start : List (List Cell) → ℕ → ℕ → ℕ
third_start s v i = start_before s v (previous_start s v i)

-- where the first note of a voice behind a column starts; the column, where none does
abbrev pub next_start : List (List Cell) → ℕ → ℕ → ℕ
next_start s v i = option_map_or (λ onset. onset.start) (first_of (onsets_since s v (i + 1))) i

-- ---- notes far back

-- a note turns: it is left in the direction opposite to the one in which it was reached
abbrev pub is_turned : Pitch → Pitch → Pitch → Bool
is_turned before here after =
    opposite_ways (interval_between before here) (interval_between here after)

-- where the latest turning note starts of a note and those before it, the newest first, behind
-- which another comes; where the oldest of them starts, if none turns
abbrev pub turning_from : Note → Note → List Note → ℕ
turning_from after here [] = here.start
turning_from after here (before ∷ notes) =
    if is_turned before.pitch here.pitch after.pitch then here.start
    else turning_from here before notes

-- where the latest turning note starts behind the newest of these notes
abbrev pub turning_among : ℕ → List Note → ℕ
turning_among else_ [] = else_
turning_among else_ (last ∷ []) = last.start
turning_among else_ (last ∷ here ∷ notes) = turning_from last here notes

-- where the turning note starts before the note that the note at a column makes one
abbrev pub turning_start : List (List Cell) → ℕ → ℕ → ℕ
turning_start s v i = turning_among (latest_start s v i) (notes_up_to s v (latest_start s v i))

-- how many semitones a note lies from a pitch
abbrev pub away : Pitch → Note → ℕ
away p note = unsigned_abs (interval_between p note.pitch).semitones

-- of two notes the one that is farther from a pitch, of two that are as far the first
abbrev pub farther : Pitch → Note → Note → Note
farther p note other = if nat_lt (away p note) (away p other) then other else note

-- of a note and others the one that is farthest from a pitch
abbrev pub farthest : Pitch → Note → List Note → Note
farthest p note [] = note
farthest p note (other ∷ notes) = farthest p (farther p note other) notes

-- where the note starts that is farthest from the newest of these notes
abbrev pub farthest_among : ℕ → List Note → ℕ
farthest_among else_ [] = else_
farthest_among else_ (now ∷ notes) = (farthest now.pitch now notes).start

-- where the note starts that is farthest from the one at a column, of those so far
abbrev pub farthest_start : List (List Cell) → ℕ → ℕ → ℕ
farthest_start s v i = farthest_among i (notes_up_to s v (i + 1))

-- a note far back counts for S8, the turning note before, and for S9, the other end of the span
abbrev pub far_start : ℕ → List (List Cell) → ℕ → ℕ → Option ℕ
far_start rule s v i =
    if rule == 8 then Some (turning_start s v i)
    else (if rule == 9 then Some (farthest_start s v i)
    else None)

-- ---- from which column to which

-- rules of two moves of a voice: three notes count, the last of which is at the place
abbrev pub has_two_moves : ℕ → Bool
has_two_moves rule = (rule == 6) || (rule == 7) || (rule == 22)

-- rules for which the note before doesn't count
abbrev pub is_of_one_note : ℕ → Bool
is_of_one_note rule = (rule == 9) || (rule == 20) || (rule == 28)

-- the first column of which a voice's notes count for a break at column i: of S3 that of the bar
-- which begins there, of S18 that of the note at the beginning of the bar before, else that of the
-- note at the place, of the one before it or of the one before that
abbrev pub first_column : ℕ → List (List Cell) → ℕ → ℕ → ℕ
first_column rule s v i =
    if rule == 3 then i
    else (if rule == 18 then latest_start s v (i - 8)
    else (if is_of_one_note rule then latest_start s v i
    else (if has_two_moves rule then third_start s v i
    else previous_start s v i)))

-- in species 3 and 5 two notes after it may excuse a note, else one may
abbrev pub excusing_start : ℕ → List (List Cell) → ℕ → ℕ → ℕ
excusing_start species s v i =
    if (species == 3) || (species == 5) then next_start s v (next_start s v i)
    else next_start s v i

-- a note that starts at column i may be excused by what comes after it
abbrev pub last_of_excuse : Exercise → List (List Cell) → ℕ → ℕ → ℕ
last_of_excuse ex s v i =
    if is_start (cell_at s v i) then excusing_start (species_in ex v) s v i else i

-- the last column of which they count: of S3 the bar's, of S20 the one where a held note goes on,
-- of S28 the one before that, of S25 the next note's
abbrev pub last_column : Exercise → ℕ → List (List Cell) → ℕ → ℕ → ℕ
last_column ex rule s v i =
    if rule == 3 then i + 7
    else (if rule == 20 then i + 4
    else (if rule == 28 then i + 3
    else (if rule == 25 then next_start s v i
    else (if (rule == 15) || (rule == 27) then last_of_excuse ex s v i
    else i))))

-- ---- the notes

-- the notes of a voice that start from one column on and before another
abbrev pub notes_between : List (List Cell) → ℕ → ℕ → ℕ → List Onset
notes_between s v from end = onsets_since (take end s) v from

-- the note of a voice that starts at a column, where one is meant
abbrev pub note_from : List (List Cell) → ℕ → Option ℕ → List Onset
note_from s v start = option_map_or (λ from. notes_between s v from (from + 1)) start []

-- the notes of a voice that count for a break of a rule at a column
abbrev pub notes_that_count : Exercise → ℕ → List (List Cell) → ℕ → ℕ → List Onset
notes_that_count ex rule s v i =
    note_from s v (far_start rule s v i)
    ++ notes_between s v (first_column rule s v i) (last_column ex rule s v i + 1)
