-- The bytes of a file have one reading (`reading_once`).
use Rattle.std.proofs.Common.{◌≡◌, ℕ, List, Result, Ok, Err, sym, ◌∙◌, ap, subst}
use Rattle.fux_grid.specs.declared.exercise.Exercise.{Exercise}
use Rattle.fux_grid.specs.declared.exercise.Head.{Head}
use Rattle.smf_bytes.specs.declared.fault.ByteFault.{ByteFault}
use Rattle.smf_bytes.specs.Events.{File}
use Rattle.smf_bytes.proofs.FileLemmas.{file_is}
use Rattle.smf_score.specs.declared.fault.SmfFault.{SmfFault}
use Rattle.smf_score.specs.declared.fault.SmfFault.TheVariants as faults
use Rattle.smf_score.specs.declared.played.Played.{Played}
use Rattle.smf_score.specs.declared.strokes.Stroke.{Stroke}
use Rattle.smf_score.specs.Played.{notes_in}
use Rattle.smf_score.specs.Strokes.{strokes_in}
use Rattle.smf_score.specs.Reading.{IsReading, OfHeader, OfStrokes, ReadsAs, exercise_of_notes}
use Rattle.smf_score.proofs.OrderLemmas.{one_order}

strokes_once : (head : Head) (file : File) (r : Result (List Stroke) SmfFault) (a b : Result Exercise SmfFault)
    → OfStrokes head file r a → OfStrokes head file r b → a ≡ b
strokes_once head file (Err fault) a b first second = first ∙ sym second
strokes_once head file (Ok strokes) a b first second =
    let notes = notes_in (record { format = file.header.format; top_first = head.top_first }) strokes in
    let same = one_order notes first.0 second.0 first.1 second.1 in
    first.2 ∙ ap (λ (ns : List Played). exercise_of_notes head file.header.division ns) same ∙ sym second.2

pub reading_once : (head : Head) (bytes : List ℕ) (a b : Result Exercise SmfFault)
    → IsReading head bytes a → IsReading head bytes b → a ≡ b
reading_once head bytes a b (one, file, first) (other, same, second) =
    at one first (subst (λ (r : Result File ByteFault). OfHeader head r b) (file_is bytes other same ∙ sym (file_is bytes one file)) second)
  where
    at : (r : Result File ByteFault) → OfHeader head r a → OfHeader head r b → a ≡ b
    at (Err fault) first second = first ∙ sym second
    at (Ok file) first second = strokes_once head file (strokes_in file.answers) a b first second

-- what is said of an answer other than want of memory
pub reads_from : (Has Is : Result Exercise SmfFault → Type 0) (answer : Result Exercise SmfFault)
    → ((read : Result Exercise SmfFault) → Has read → Is read) → ReadsAs answer Has → ReadsAs answer Is
reads_from Has Is (Ok ex) from h = from (Ok ex) h
reads_from Has Is (Err faults.Memory) from h = tt
reads_from Has Is (Err e) from h = from (Err e) h
