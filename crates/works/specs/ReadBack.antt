-- What `compose`, `best` and `mixed` write is read back: it is a note text of the exercise, with
-- the setting that was found. What `newcantus` writes is no such text, but its line is that of the
-- cantus in one, where the number of a voice is put in.
use Rattle.std.specs.Prelude.{◌≡◌, ℕ, ◌≤◌, Bool, List, ◌∷◌, ◌++◌, Option, Some, Ok, drop, length, take}
use Rattle.std.specs.Fmt.{decimal}
use Rattle.class_marker.specs.Markings.{IsTheText}
use Rattle.command_words.specs.declared.command.Job.TheVariants.{Best, Compose}
use Rattle.command_words.specs.Commands.{mixing}
use Rattle.command_words.specs.declared.command.Search.{Search}
use Rattle.command_words.specs.declared.command.Wanted.{Wanted}
use Rattle.fux_grid.specs.declared.exercise.Exercise.{Exercise}
use Rattle.fux_grid.specs.Grid.{Grid}
use Rattle.fux_pitch.specs.declared.pitch.Pitch.{Pitch}
use Rattle.fux_text.specs.Lines.{cantus_words, setting_text}
use Rattle.fux_text.specs.Words.{text_line}
use Rattle.works.specs.declared.work.Output.{Output}
use Rattle.works.specs.declared.work.Verdict.TheVariants.{Favorable}
use Rattle.works.specs.Composed.{penalty_line}
use Rattle.works.specs.Invented.{MakesCantus, cantus_line}
use Rattle.works.specs.Mixed.{MakesMixed}
use Rattle.works.specs.Works.{MakesOfText}

-- these bytes, which were written of the exercise that a text has and of a setting with a penalty,
-- are a note text, and of no other exercise than that one with that setting
pub record IsReadBack (text bytes : List ℕ) : Type 0 where
  pub exercise : Exercise
  pub is : IsTheText text exercise
  pub score : Grid
  pub penalty : ℕ
  pub spelled : bytes ≡ setting_text exercise score.columns ++ penalty_line penalty
  pub read : IsTheText bytes (record exercise { setting = Some score })

-- where a best setting is written, and no more bytes than a text may have, these are read back
abbrev pub ComposedIsRead : Type 0
ComposedIsRead =
    (budget : ℕ) (sheets : List (List ℕ)) (text : List ℕ) (written : Output)
    → MakesOfText (Compose budget) sheets text (Ok written) → written.verdict ≡ Favorable
    → length written.bytes ≤ 65536 → IsReadBack text written.bytes

abbrev pub BestIsRead : Type 0
BestIsRead =
    (budget : ℕ) (sheets : List (List ℕ)) (text : List ℕ) (written : Output)
    → MakesOfText (Best budget) sheets text (Ok written) → written.verdict ≡ Favorable
    → length written.bytes ≤ 65536 → IsReadBack text written.bytes

abbrev pub MixedIsRead : Type 0
MixedIsRead =
    (named : List (Option ℕ)) (budget : ℕ) (by_sharper : Bool) (sheets : List (List ℕ)) (text : List ℕ)
    (written : Output) → MakesMixed named (mixing budget by_sharper) sheets text (Ok written) → written.verdict ≡ Favorable
    → length written.bytes ≤ 65536 → IsReadBack text written.bytes

-- a line that begins with the word `cantus`, with the number of a voice behind that word
abbrev pub with_voice : ℕ → List ℕ → List ℕ
with_voice v line = take 6 line ++ (32 ∷ decimal v) ++ drop 6 line

-- these bytes are the line of a cantus and that of its penalty; and with the number of its voice
-- the first is the line of the cantus in the text of each exercise over it
pub record IsCantusRead (bytes : List ℕ) : Type 0 where
  pub cantus : List Pitch
  pub penalty : ℕ
  pub spelled : bytes ≡ cantus_line cantus ++ penalty_line penalty
  pub read : (ex : Exercise) → ex.cantus ≡ cantus
      → with_voice ex.cantus_voice (cantus_line cantus) ≡ text_line (cantus_words ex)

-- so it is with what `newcantus` writes of a best cantus
abbrev pub NewCantusIsRead : Type 0
NewCantusIsRead =
    (wanted : Wanted) (search : Search) (sheets : List (List ℕ)) (written : Output)
    → MakesCantus wanted search sheets (Ok written) → written.verdict ≡ Favorable → IsCantusRead written.bytes
