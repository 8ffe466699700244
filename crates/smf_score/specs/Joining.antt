-- What the bytes of a file are as an answer to a lesson, or their first fault.
use Rattle.std.specs.Prelude.{◌≡◌, ℕ, ◌*◌, Bool, List, Result, Ok, Err}
use Rattle.fux_grid.specs.declared.exercise.Exercise.{Exercise}
use Rattle.fux_grid.specs.Grid.{Grid}
use Rattle.smf_bytes.specs.declared.fault.ByteFault.{ByteFault}
use Rattle.smf_bytes.specs.Events.{File}
use Rattle.smf_bytes.specs.Files.{IsFile}
use Rattle.smf_score.specs.declared.fault.SmfFault.{SmfFault}
use Rattle.smf_score.specs.declared.fault.SmfFault.TheVariants as faults
use Rattle.smf_score.specs.declared.placed.Placed.{Placed}
use Rattle.smf_score.specs.declared.played.Played.{Played}
use Rattle.smf_score.specs.declared.strokes.Stroke.{Stroke}
use Rattle.smf_score.specs.Order.{IsInOrder}
use Rattle.smf_score.specs.Played.{notes_in}
use Rattle.smf_score.specs.Strokes.{strokes_in}
use Rattle.smf_score.specs.declared.join_fault.JoinFault.{JoinFault}
use Rattle.smf_score.specs.declared.join_fault.JoinFault.TheVariants.{Smf}
use Rattle.smf_score.specs.declared.manner.Manner.{Manner}
use Rattle.smf_score.specs.Joined.{joined}
use Rattle.smf_score.specs.Meters.{meter_in, signatures_in}
use Rattle.smf_score.specs.Staves.{voices_heard}

-- the answer of voices that were placed on the grid
abbrev pub joined_voices : Exercise → Result (List (List Placed)) SmfFault → Result Grid JoinFault
joined_voices lesson (Ok voices) = joined lesson voices
joined_voices lesson (Err fault) = Err (Smf fault)

-- the answer of notes in order, where an eighth of a bar is half of so many ticks
unfoldable pub joined_notes : Exercise → Bool → ℕ → List Played → Result Grid JoinFault
joined_notes lesson legato division notes = joined_voices lesson (voices_heard lesson legato division notes)

-- the answer of what the events of a file do to its notes, where its bars have so many whole notes
abbrev pub OfMeter : Exercise → Manner → File → List Stroke → Result ℕ JoinFault → Result Grid JoinFault → Type 0
OfMeter lesson manner file strokes (Err fault) read = read ≡ Err fault
OfMeter lesson manner file strokes (Ok wholes) read =
    (notes : List Played)
    × IsInOrder (notes_in (record { format = file.header.format; top_first = manner.top_first }) strokes) notes
    × (read ≡ joined_notes lesson manner.legato (wholes * file.header.division) notes)

-- the answer of a file, whose bars are as long as its signatures say
abbrev pub OfStrokes : Exercise → Manner → File → Result (List Stroke) SmfFault → Result Grid JoinFault → Type 0
OfStrokes lesson manner file (Err fault) read = read ≡ Err (Smf fault)
OfStrokes lesson manner file (Ok strokes) read =
    OfMeter lesson manner file strokes (meter_in file.header.division (signatures_in file.answers)) read

-- the answer of the events of a file
abbrev pub OfFile : Exercise → Manner → File → Result Grid JoinFault → Type 0
OfFile lesson manner file read = OfStrokes lesson manner file (strokes_in file.answers) read

-- the answer of a file with this header
abbrev pub OfHeader : Exercise → Manner → Result File ByteFault → Result Grid JoinFault → Type 0
OfHeader lesson manner (Err fault) read = read ≡ Err (Smf (faults.Bytes fault))
OfHeader lesson manner (Ok file) read = OfFile lesson manner file read

-- the bytes of a file that was played in a manner are this answer to the lesson: they are a file,
-- or none, and this is its setting of the lesson, or its first fault
abbrev pub IsJoined : Exercise → Manner → List ℕ → Result Grid JoinFault → Type 0
IsJoined lesson manner bytes read =
    (file : Result File ByteFault) × IsFile bytes file × OfHeader lesson manner file read

-- an answer other than want of memory is the reading
abbrev pub FailsAs : JoinFault → (Result Grid JoinFault → Type 0) → Type 0
FailsAs (Smf faults.Memory) IsRead = Unit {0}
FailsAs fault IsRead = IsRead (Err fault)

abbrev pub ReadsAs : Result Grid JoinFault → (Result Grid JoinFault → Type 0) → Type 0
ReadsAs (Ok score) IsRead = IsRead (Ok score)
ReadsAs (Err fault) IsRead = FailsAs fault IsRead
