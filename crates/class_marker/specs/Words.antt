-- The words for voices, and for notes with their places.
use Rattle.std.specs.Prelude.{ℕ, ◌+◌, ◌/◌, ◌%◌, ◌==◌, List, [], ◌++◌, codes, if◌then◌else◌}
use Rattle.std.specs.Fmt.{decimal}
use Rattle.fux_pitch.specs.declared.pitch.Pitch.{Pitch}
use Rattle.fux_pitch.specs.Names.{name_of}
use Rattle.fux_grid.specs.declared.exercise.Exercise.{Exercise}
use Rattle.fux_grid.specs.Exercises.{bar_of, slot_of}

-- the names of two, of three and of four voices, from the lowest
abbrev pub of_two : ℕ → List ℕ
of_two v = if v == 0 then codes "lower" else codes "upper"

abbrev pub of_three : ℕ → List ℕ
of_three v =
    if v == 0 then codes "lower" else (if v == 1 then codes "middle" else codes "upper")

abbrev pub of_four : ℕ → List ℕ
of_four v =
    if v == 0 then codes "bass"
    else (if v == 1 then codes "tenor"
    else (if v == 2 then codes "alto"
    else codes "soprano"))

-- the name of one of so many voices
abbrev pub part_name : ℕ → ℕ → List ℕ
part_name voices v =
    if voices == 2 then of_two v else (if voices == 3 then of_three v else of_four v)

-- the name of a voice of an exercise
abbrev pub voice_name : Exercise → ℕ → List ℕ
voice_name ex v = if v == ex.cantus_voice then codes "cantus" else part_name ex.voices v

-- eight slots are four beats: every other slot lies between two
abbrev pub half_beat : ℕ → List ℕ
half_beat slot = if slot % 2 == 1 then codes " and" else []

-- a note of this pitch that starts at a column: its name, its bar and its beat
unfoldable pub note_words : ℕ → Pitch → List ℕ
note_words start pitch =
    name_of pitch ++ codes " in bar " ++ decimal (bar_of start)
    ++ codes " on beat " ++ decimal (slot_of start / 2 + 1) ++ half_beat (slot_of start)
