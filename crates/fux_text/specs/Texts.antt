-- Which texts are note texts, and where a text is at fault.
use Rattle.std.specs.Prelude.{◌≡◌, ◌⊎◌, ℕ, List, Result, Err, MatchResult}
use Rattle.fux_grid.specs.declared.exercise.Exercise.{Exercise}
use Rattle.fux_grid.specs.Grid.{Grid}
use Rattle.fux_text.specs.declared.fault.TextKind.{TextKind}
use Rattle.text_lines.specs.declared.fault.TextFault.{TextFault}
use Rattle.text_lines.specs.declared.fault.TextFault.TheVariants as faults
use Rattle.text_lines.specs.Tables.{IsTextFault}
use Rattle.fux_text.specs.Fitting.{any_cells}
use Rattle.fux_text.specs.Grammar.{AreSettingLines, IsNoteText}
use Rattle.fux_text.specs.Reading.{note_format, note_table}
use Rattle.fux_text.specs.Sing.{sung_table}

-- the bytes are a note text of the exercise: their lines have its words (what is read of them is
-- the exercise just then)
unfoldable pub IsTextOf : List ℕ → Exercise → Type 0
IsTextOf bytes ex = IsNoteText bytes ex

-- the bytes are no note text, and this is their first fault: up to there they are as those of a
-- note text (it is what reading tells just then)
unfoldable pub HasFault : List ℕ → TextKind → ℕ → ℕ → Type 0
HasFault bytes kind line column =
    IsTextFault (note_format note_table) bytes (record { kind = kind; line = line; column = column })

-- the bytes are the `sing` lines of this setting of the exercise
unfoldable pub AreSingLinesOf : Exercise → List ℕ → Grid → Type 0
AreSingLinesOf ex bytes score = AreSettingLines ex bytes score

-- the bytes are no such lines, and this is their first fault
unfoldable pub HasSingFault : Exercise → List ℕ → TextKind → ℕ → ℕ → Type 0
HasSingFault ex bytes kind line column =
    IsTextFault (note_format (sung_table any_cells ex)) bytes (record { kind = kind; line = line; column = column })

-- the answer is this one, or tells of want of memory
abbrev pub IsEither : TextFault TextKind → TextFault TextKind → Type 0
IsEither answer fault = (answer ≡ fault) ⊎ (answer ≡ faults.Memory)

-- what is found is this value, unless memory runs out
abbrev pub Finds : {A : Type 0} → Result A (TextFault TextKind) → A → Type 0
Finds result value = MatchResult result (λ found. found ≡ value) (λ fault. fault ≡ faults.Memory)

-- each fault that is told, but for want of memory, is one of these
abbrev pub TellsOnly : {A : Type 0} → Result A (TextFault TextKind) → (TextKind → ℕ → ℕ → Type 0) → Type 0
TellsOnly result Has =
    (kind : TextKind) (line column : ℕ) → result ≡ Err (faults.At kind line column) → Has kind line column

-- and each of these is told, unless memory runs out
abbrev pub TellsEach : {A : Type 0} → Result A (TextFault TextKind) → (TextKind → ℕ → ℕ → Type 0) → Type 0
TellsEach result Has = (kind : TextKind) (line column : ℕ) → Has kind line column
    → MatchResult result (λ _. ⊥) (λ fault. IsEither fault (faults.At kind line column))
