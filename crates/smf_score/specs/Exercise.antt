-- The exercise of placed notes, or the fault that they have together.
use Rattle.smf_score.specs.Faults.{◌>>=◌}
use Rattle.std.specs.Prelude.{ℕ, ◌+◌, ◌*◌, ◌/◌, ◌&&◌, List, [], ◌∷◌, Some, None, Result, Ok, Err, length, max, min, nat_le, nat_lt, slice_index_or, if◌then◌else◌}
use Rattle.fux_pitch.specs.declared.pitch.Pitch.{Pitch}
use Rattle.fux_grid.specs.declared.exercise.Exercise.{Exercise}
use Rattle.fux_grid.specs.declared.exercise.Head.{Head}
use Rattle.smf_score.specs.declared.fault.SmfFault.{SmfFault}
use Rattle.smf_score.specs.declared.fault.SmfFault.TheVariants.{Bars, VoiceCount}
use Rattle.smf_score.specs.declared.placed.Placed.{Placed}
use Rattle.smf_score.specs.Cantus.{cantus_in}
use Rattle.smf_score.specs.Ranges.{ranges_in}
use Rattle.smf_score.specs.Sounding.{lines_of}
use Rattle.voice_lines.specs.Lines.{score_of}

-- the slot at which the last note of a voice has ended
abbrev pub last_end : List Placed → ℕ
last_end [] = 0
last_end (note ∷ notes) = max (last_end notes) note.end

-- the slot at which the last note of all has ended
abbrev pub last_slot : List (List Placed) → ℕ
last_slot [] = 0
last_slot (notes ∷ voices) = max (last_slot voices) (last_end notes)

-- 3 to 24 bars
abbrev pub bars_within : ℕ → Result ℕ SmfFault
bars_within count = if nat_le 3 count && nat_le count 24 then Ok count else Err (Bars count)

-- how many bars there are, the last one whole
abbrev pub bars_in : List (List Placed) → Result ℕ SmfFault
bars_in voices = bars_within ((last_slot voices + 7) / 8)

-- 2 to 4 voices with the cantus and the species voice among them; a file has at most 65,535
abbrev pub voices_in : Head → ℕ → Result ℕ SmfFault
voices_in head voices =
    if nat_le 2 voices && (nat_le voices 4 && (nat_lt head.cantus_voice voices && nat_lt head.species_voice voices))
    then Ok voices else Err (VoiceCount (min voices 65535))

-- the exercise of so many bars with this cantus, and the notes of its voices as its setting
abbrev pub exercise_with : Head → List (List Placed) → ℕ → ℕ → List Pitch → Exercise
exercise_with head notes voices bars cantus = record {
  mode = head.mode;
  voices = voices;
  bars = bars;
  species = head.species;
  species_voice = head.species_voice;
  mixed = None;
  cantus_voice = head.cantus_voice;
  cantus = cantus;
  ranges = ranges_in head.cantus_voice 0 notes;
  relax = [];
  given = [];
  setting = Some (score_of (8 * bars) (lines_of bars notes));
}

-- the exercise of the notes of voices
unfoldable pub exercise_in : Head → List (List Placed) → Result Exercise SmfFault
exercise_in head notes = do
  voices ← voices_in head (length notes)
  bars ← bars_in notes
  cantus ← cantus_in bars (slice_index_or (lines_of bars notes) head.cantus_voice [])
  Ok (exercise_with head notes voices bars cantus)
