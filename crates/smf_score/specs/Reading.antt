-- What the bytes of a file are as an exercise, or its first fault.
use Rattle.smf_score.specs.Faults.{◌>>=◌}
use Rattle.std.specs.Prelude.{◌≡◌, ℕ, ⊤, List, Result, Ok, Err}
use Rattle.fux_grid.specs.declared.exercise.Exercise.{Exercise}
use Rattle.fux_grid.specs.declared.exercise.Head.{Head}
use Rattle.smf_bytes.specs.declared.fault.ByteFault.{ByteFault}
use Rattle.smf_bytes.specs.Events.{File}
use Rattle.smf_bytes.specs.Files.{IsFile}
use Rattle.smf_score.specs.declared.fault.SmfFault.{SmfFault}
use Rattle.smf_score.specs.declared.fault.SmfFault.TheVariants as faults
use Rattle.smf_score.specs.declared.played.Played.{Played}
use Rattle.smf_score.specs.declared.strokes.Stroke.{Stroke}
use Rattle.smf_score.specs.Exercise.{exercise_in}
use Rattle.smf_score.specs.Order.{IsInOrder}
use Rattle.smf_score.specs.Placing.{voices_of, voices_placed}
use Rattle.smf_score.specs.Played.{notes_in}
use Rattle.smf_score.specs.Strokes.{strokes_in}

-- the exercise of notes in order, or the first fault
unfoldable pub exercise_of_notes : Head → ℕ → List Played → Result Exercise SmfFault
exercise_of_notes head division notes = do
  voices ← voices_placed division (voices_of notes)
  exercise_in head voices

-- the reading of what the events of a file do to its notes: that of its notes in order
abbrev pub OfStrokes : Head → File → Result (List Stroke) SmfFault → Result Exercise SmfFault → Type 0
OfStrokes head file (Err fault) read = read ≡ Err fault
OfStrokes head file (Ok strokes) read =
    (notes : List Played)
    × IsInOrder (notes_in (record { format = file.header.format; top_first = head.top_first }) strokes) notes
    × (read ≡ exercise_of_notes head file.header.division notes)

-- the reading of the events of a file
abbrev pub OfFile : Head → File → Result Exercise SmfFault → Type 0
OfFile head file read = OfStrokes head file (strokes_in file.answers) read

-- the reading of a file with this header
abbrev pub OfHeader : Head → Result File ByteFault → Result Exercise SmfFault → Type 0
OfHeader head (Err fault) read = read ≡ Err (faults.Bytes fault)
OfHeader head (Ok file) read = OfFile head file read

-- the reading of the bytes of a file: they are a file, or none, and this is its reading
abbrev pub IsReading : Head → List ℕ → Result Exercise SmfFault → Type 0
IsReading head bytes read = (file : Result File ByteFault) × IsFile bytes file × OfHeader head file read

-- an answer other than want of memory is the reading
abbrev pub FailsAs : SmfFault → (Result Exercise SmfFault → Type 0) → Type 0
FailsAs faults.Memory IsRead = ⊤
FailsAs fault IsRead = IsRead (Err fault)

abbrev pub ReadsAs : Result Exercise SmfFault → (Result Exercise SmfFault → Type 0) → Type 0
ReadsAs (Ok ex) IsRead = IsRead (Ok ex)
ReadsAs (Err fault) IsRead = FailsAs fault IsRead
