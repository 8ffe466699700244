-- What placed notes are as an answer to a lesson, or their first fault.
use Rattle.std.specs.Prelude.{ℕ, ◌+◌, ◌*◌, ◌/◌, ◌==◌, List, length, map, min, Option, Some, None, Result, Ok, Err, if◌then◌else◌}
use Rattle.std.specs.List.{range_with_len}
use Rattle.fux_grid.specs.declared.cell.Cell.{Cell}
use Rattle.fux_grid.specs.declared.exercise.Exercise.{Exercise}
use Rattle.fux_grid.specs.Grid.{Grid}
use Rattle.smf_score.specs.declared.fault.SmfFault.TheVariants.{Bars, VoiceCount}
use Rattle.smf_score.specs.declared.placed.Placed.{Placed}
use Rattle.smf_score.specs.Exercise.{last_slot}
use Rattle.smf_score.specs.Sounding.{cells_of}
use Rattle.smf_score.specs.declared.join_fault.JoinFault.{JoinFault}
use Rattle.smf_score.specs.declared.join_fault.JoinFault.TheVariants.{Smf, Pickup}
use Rattle.smf_score.specs.LessonCantus.{are_late, cantus_fault}
use Rattle.smf_score.specs.Orders.{voice_of}
use Rattle.voice_lines.specs.Lines.{cantus_cells, score_of}

-- how many bars there are, the last one whole
abbrev pub bars_in : List (List Placed) → ℕ
bars_in voices = (last_slot voices + 7) / 8

-- the cells of a voice: those of the lesson's cantus, or those of its notes
abbrev pub line_of : Exercise → List (List Placed) → ℕ → List Cell
line_of lesson voices v =
    if v == lesson.cantus_voice then cantus_cells lesson.cantus
    else cells_of 0 (8 * lesson.bars) (voice_of lesson voices v)

-- those of each voice
abbrev pub lines_of : Exercise → List (List Placed) → List (List Cell)
lines_of lesson voices = map (line_of lesson voices) (range_with_len 0 lesson.voices)

-- the setting that they are
abbrev pub score_in : Exercise → List (List Placed) → Grid
score_in lesson voices = score_of (8 * lesson.bars) (lines_of lesson voices)

-- what is wrong with the voices: all notes of the cantus begin as late in their bars; there are
-- more bars than the lesson has, or fewer; or the cantus isn't the lesson's
abbrev pub voices_fault : Exercise → List (List Placed) → Option JoinFault
voices_fault lesson voices =
    if are_late (voice_of lesson voices lesson.cantus_voice) then Some Pickup
    else (if bars_in voices == lesson.bars
    then cantus_fault 0 lesson.cantus (voice_of lesson voices lesson.cantus_voice)
    else Some (Smf (Bars (bars_in voices))))

-- a fault where there is one, or else this
abbrev pub unless : {X : Type 0} → Option JoinFault → Result X JoinFault → Result X JoinFault
unless None read = read
unless (Some fault) read = Err fault

-- the setting of the lesson that these voices of a file are
unfoldable pub joined : Exercise → List (List Placed) → Result Grid JoinFault
joined lesson voices =
    if length voices == lesson.voices
    then unless (voices_fault lesson voices) (Ok (score_in lesson voices))
    else Err (Smf (VoiceCount (min (length voices) 65535)))
