-- What a search keeps of the notes of a voice.
use Rattle.std.specs.Prelude.{◌≡◌, ℕ, pos, List, Some, slice_get}
use Rattle.fux_grid.specs.declared.cell.Cell.{Cell}
use Rattle.fux_grid.specs.Columns.{line}
use Rattle.rule_law.specs.Places.{Row}
use Rattle.melody_rules.specs.declared.notes.VoiceNotes.{VoiceNotes}
use Rattle.melody_rules.specs.Keys.{greatest_key, least_key}
use Rattle.melody_rules.specs.Rows.{pitches, last_of, before_last, latest_turning}

-- the notes are those of a line, whose cells go from the newest to the oldest
pub record IsNotesOf (cells : List Cell) (notes : VoiceNotes) : Type 0 where
  pub last : notes.last ≡ last_of (pitches cells)
  pub before : notes.before ≡ before_last (pitches cells)
  pub turning : notes.turning ≡ latest_turning (pitches cells)
  pub greatest : pos notes.greatest ≡ greatest_key (pitches cells)
  pub least : pos notes.least ≡ least_key (pitches cells)

-- the notes of each voice are those of its line in a history of columns
abbrev pub AreNotesOf : List (List Cell) → List VoiceNotes → Type 0
AreNotesOf behind voices =
    (v : ℕ) (notes : VoiceNotes) → slice_get voices v ≡ Some notes → IsNotesOf (line v behind) notes

-- in each column that comes after these notes, it is what the row answers
abbrev pub AnswersAfter : {R : Type 0} → Row R → List VoiceNotes → List Cell → R → Type 0
AnswersAfter row voices now answer =
    (i : ℕ) (behind ahead : List (List Cell)) → AreNotesOf behind voices → answer ≡ row i behind now ahead
