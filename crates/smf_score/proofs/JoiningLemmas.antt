-- An answer is the reading where it is of what reading gives (`reads`, `reads_fault`, `reads_from`),
-- and what the answer of a file's notes is (`is_of_file`, `fails_score`).
use Rattle.std.proofs.Common.{◌≡◌, ℕ, ◌*◌, List, Result, Ok, Err, refl, ap, subst}
use Rattle.fux_grid.specs.declared.exercise.Exercise.{Exercise}
use Rattle.fux_grid.specs.Grid.{Grid}
use Rattle.smf_bytes.specs.Events.{File}
use Rattle.smf_score.specs.declared.fault.SmfFault.{SmfFault}
use Rattle.smf_score.specs.declared.fault.SmfFault.TheVariants as faults
use Rattle.smf_score.specs.declared.placed.Placed.{Placed}
use Rattle.smf_score.specs.declared.played.Played.{Played}
use Rattle.smf_score.specs.declared.strokes.Stroke.{Stroke}
use Rattle.smf_score.specs.Faults as scores
use Rattle.smf_score.specs.Order.{IsInOrder}
use Rattle.smf_score.specs.Played.{notes_in}
use Rattle.smf_score.specs.Strokes.{strokes_in}
use Rattle.smf_score.specs.declared.join_fault.JoinFault.{JoinFault}
use Rattle.smf_score.specs.declared.join_fault.JoinFault.TheVariants.{Smf}
use Rattle.smf_score.specs.declared.manner.Manner.{Manner}
use Rattle.smf_score.specs.JoinFaults.{Fails, Gives}
use Rattle.smf_score.specs.Meters.{meter_in, signatures_in}
use Rattle.smf_score.specs.Joining.{OfFile, ReadsAs, joined_notes, joined_voices}

pub reads : (Is : Result Grid JoinFault → Type 0) (answer read : Result Grid JoinFault) → Gives answer read → Is read
    → ReadsAs answer Is
reads Is (Ok score) read h is = subst Is h is
reads Is (Err (Smf faults.Memory)) read h is = tt
reads Is (Err e) read h is = subst Is h is

pub reads_fault : {X : Type 0} (Is : Result Grid JoinFault → Type 0) (fault : SmfFault) (read : Result X SmfFault)
    → scores.Fails fault read → (read ≡ Err fault → Is (Err (Smf fault))) → ReadsAs (Err (Smf fault)) Is
reads_fault Is faults.Memory read h so = tt
reads_fault Is fault read h so = so h

-- what is said of an answer other than want of memory
pub reads_from : (Has Is : Result Grid JoinFault → Type 0) (answer : Result Grid JoinFault)
    → ((read : Result Grid JoinFault) → Has read → Is read) → ReadsAs answer Has → ReadsAs answer Is
reads_from Has Is (Ok score) from h = from (Ok score) h
reads_from Has Is (Err (Smf faults.Memory)) from h = tt
reads_from Has Is (Err e) from h = from (Err e) h

pub fails_score : (lesson : Exercise) (fault : SmfFault) (read : Result (List (List Placed)) SmfFault)
    → scores.Fails fault read → Fails (Smf fault) (joined_voices lesson read)
fails_score lesson faults.Memory read h = tt
fails_score lesson fault read h = ap (joined_voices lesson) h

module _ (lesson : Exercise) (manner : Manner) (file : File) where
  pub no_strokes : (fault : SmfFault) → strokes_in file.answers ≡ Err fault
      → OfFile lesson manner file (Err (Smf fault))
  no_strokes fault e = rw e refl

  pub no_meter : (strokes : List Stroke) (fault : JoinFault) → strokes_in file.answers ≡ Ok strokes
      → meter_in file.header.division (signatures_in file.answers) ≡ Err fault → OfFile lesson manner file (Err fault)
  no_meter strokes fault e m = rw e (rw m refl)

  pub is_of_file : (strokes : List Stroke) (wholes : ℕ) (notes : List Played) → strokes_in file.answers ≡ Ok strokes
      → meter_in file.header.division (signatures_in file.answers) ≡ Ok wholes
      → IsInOrder (notes_in (record { format = file.header.format; top_first = manner.top_first }) strokes) notes
      → OfFile lesson manner file (joined_notes lesson manner.legato (wholes * file.header.division) notes)
  is_of_file strokes wholes notes e m order = rw e (rw m (notes, order, refl))
