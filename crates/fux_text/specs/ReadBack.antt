-- What is written is read back: the laws that tie the two directions of the note text to one
-- another.
use Rattle.std.specs.Prelude.{◌⊎◌, ◌≡◌, ◌↔◌, ℕ, Ok, Err, ◌<◌, ◌≤◌, ◌^◌, List, Option, Some, None, IfSome, length}
use Rattle.fux_grid.specs.declared.cell.Cell.{Cell}
use Rattle.fux_grid.specs.declared.exercise.Exercise.{Exercise}
use Rattle.fux_grid.specs.declared.exercise.VoiceSet.{VoiceSet}
use Rattle.fux_grid.specs.Exercises.{FitsGiven, IsValid}
use Rattle.fux_grid.specs.Grid.{Grid}
use Rattle.fux_text.specs.declared.fault.TextKind.{TextKind}
use Rattle.fux_text.specs.Grammar.{IsSettingOf}
use Rattle.fux_text.specs.Lines.{free_voices, note_text, sing_texts, voices_word}
use Rattle.fux_text.specs.Reading.{exercise_in, setting_alone}
use Rattle.fux_text.specs.Relaxing.{voices_named}
use Rattle.fux_text.specs.Texts.{AreSingLinesOf, HasFault, HasSingFault, IsTextOf}

-- the word of a set of voices, or of all of them, is read as that set
abbrev pub SetsReadBack : Type 0
SetsReadBack = (voices : ℕ) (set : Option VoiceSet) → 1 ≤ voices → voices ≤ 4
    → IfSome set (λ s. (1 ≤ s.bits) × (s.bits < 2 ^ voices)) → voices_named voices (voices_word set) ≡ Some set

-- what is written of an exercise whose species aren't mixed, with a setting that fits what is given
-- or without, is a note text of that exercise with that setting, where it isn't too long to be read
abbrev pub NoteTextReadsBack : Type 0
NoteTextReadsBack = (ex : Exercise) (score : Option Grid) → IsValid ex → ex.mixed ≡ None → IfSome score (IsSettingOf ex)
    → IfSome score (λ setting. FitsGiven ex setting.columns) → length (note_text ex score) ≤ 65536
    → IsTextOf (note_text ex score) (record ex { setting = score })

-- the `sing` lines of a setting, one for each free voice
abbrev pub sing_lines : Exercise → List (List Cell) → List ℕ
sing_lines ex columns = sing_texts columns (free_voices ex)

-- and they are read back as that setting
abbrev pub SingLinesReadBack : Type 0
SingLinesReadBack = (ex : Exercise) (score : Grid) → IsValid ex → IsSettingOf ex score
    → length (sing_lines ex score.columns) ≤ 65536 → AreSingLinesOf ex (sing_lines ex score.columns) score

-- a text is read as an exercise just where it is a note text of the exercise
abbrev pub NoteTextsAreRead : Type 0
NoteTextsAreRead = (bytes : List ℕ) (ex : Exercise) → IsTextOf bytes ex ↔ (exercise_in bytes ≡ Ok ex)

-- so it is of an exercise or has a fault
abbrev pub NoteTextsOrFaults : Type 0
NoteTextsOrFaults = (bytes : List ℕ)
    → ((ex : Exercise) × IsTextOf bytes ex)
    ⊎ ((kind : TextKind) × (line : ℕ) × (column : ℕ) × HasFault bytes kind line column)

-- it is of one exercise at most, and has no fault if it is of one
abbrev pub NoteTextsAreOfOne : Type 0
NoteTextsAreOfOne = (bytes : List ℕ) (ex other : Exercise) → IsTextOf bytes ex → IsTextOf bytes other → ex ≡ other

abbrev pub NoteTextsHaveNoFault : Type 0
NoteTextsHaveNoFault = (bytes : List ℕ) (ex : Exercise) (kind : TextKind) (line column : ℕ) → IsTextOf bytes ex
    → HasFault bytes kind line column → ⊥

-- and `sing` lines alone are read as a setting just where they are its lines
abbrev pub SingLinesAreRead : Type 0
SingLinesAreRead = (ex : Exercise) (bytes : List ℕ) (score : Grid) → IsValid ex
    → AreSingLinesOf ex bytes score ↔ (setting_alone ex bytes ≡ Ok score)

-- a fault is a text's first one just where reading tells it
abbrev pub FaultsAreRead : Type 0
FaultsAreRead = (bytes : List ℕ) (kind : TextKind) (line column : ℕ)
    → HasFault bytes kind line column ↔ (exercise_in bytes ≡ Err (record { kind = kind; line = line; column = column }))

-- so there is one at most
abbrev pub NoteTextsHaveOneFault : Type 0
NoteTextsHaveOneFault = (bytes : List ℕ) (kind other : TextKind) (line column l c : ℕ) → HasFault bytes kind line column
    → HasFault bytes other l c
    → (kind ≡ other) × (line ≡ l) × (column ≡ c)

-- and so it is with `sing` lines alone
abbrev pub SingFaultsAreRead : Type 0
SingFaultsAreRead = (ex : Exercise) (bytes : List ℕ) (kind : TextKind) (line column : ℕ) → IsValid ex
    → HasSingFault ex bytes kind line column
    ↔ (setting_alone ex bytes ≡ Err (record { kind = kind; line = line; column = column }))
