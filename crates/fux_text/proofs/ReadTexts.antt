-- A text is read just where its lines have the words of what is read (`texts-read`,
-- `sing_texts-read`), and told to have a fault just where it is its first one (`faults-read`,
-- `sing_faults-read`).
use Rattle.std.proofs.Common.{◌≡◌, ℕ, List, Result, Ok, Err, ◌⊎◌, inl, inr, refl, ap, arith, ◌<◌, length}
use Rattle.fux_grid.specs.declared.exercise.Exercise.{Exercise}
use Rattle.fux_grid.specs.Exercises.{IsValid}
use Rattle.fux_grid.specs.Grid.{Grid}
use Rattle.fux_text.specs.declared.fault.TextKind.{TextKind}
use Rattle.fux_text.specs.declared.fault.TextKind.TheVariants.{TooLong}
use Rattle.text_lines.specs.Faults.{Fault}
use Rattle.fux_text.specs.Fitting.{any_cells}
use Rattle.fux_text.specs.ReadBack.{FaultsAreRead, NoteTextsHaveOneFault, SingFaultsAreRead, NoteTextsAreOfOne, NoteTextsAreRead, NoteTextsHaveNoFault, NoteTextsOrFaults, SingLinesAreRead}
use Rattle.fux_text.specs.Reading.{exercise_in, setting_alone}
use Rattle.fux_text.specs.Texts.{AreSingLinesOf, HasFault, HasSingFault, IsTextOf}
use Rattle.text_lines.specs.Tables.{IsTextFault}
use Rattle.text_lines.proofs.TextLemmas.{text-fails, text-wrong}
use Rattle.fux_text.specs.Reading.{note_format, note_table}
use Rattle.fux_text.specs.Sing.{sung_table}
use Rattle.fux_text.proofs.OnlyText.{note_text-only, setting_lines-only}
use Rattle.fux_text.proofs.OwnText.{note_text-read, setting_lines-read}

pub texts-read : NoteTextsAreRead
unfolding IsTextOf
texts-read bytes ex = (note_text-read bytes ex, note_text-only bytes ex)

pub sing_texts-read : SingLinesAreRead
unfolding AreSingLinesOf
sing_texts-read ex bytes score valid = (setting_lines-read ex bytes score valid, setting_lines-only ex bytes score valid)

pub lines-read : (ex : Exercise) (bytes : List ℕ) (score : Grid) → IsValid ex → AreSingLinesOf ex bytes score
    → setting_alone ex bytes ≡ Ok score
lines-read ex bytes score valid = (sing_texts-read ex bytes score valid).0

-- a fault of three parts
abbrev fault : TextKind → ℕ → ℕ → Fault TextKind
fault kind line column = record { kind = kind; line = line; column = column }

pub faults-read : FaultsAreRead
unfolding HasFault exercise_in
faults-read bytes kind line column = (
  text-fails (note_format note_table) bytes (fault kind line column),
  text-wrong (note_format note_table) bytes (fault kind line column),
)

pub sing_faults-read : SingFaultsAreRead
unfolding HasSingFault setting_alone
sing_faults-read ex bytes kind line column valid = (
  text-fails (note_format (sung_table any_cells ex)) bytes (fault kind line column),
  text-wrong (note_format (sung_table any_cells ex)) bytes (fault kind line column),
)

one_error : (read : Result Exercise (Fault TextKind)) (f g : Fault TextKind) → read ≡ Err f → read ≡ Err g → f ≡ g
one_error read f g h k = grind (arith, h, k)

pub texts-one_fault : NoteTextsHaveOneFault
texts-one_fault bytes kind other line column l c has its =
    let same = one_error (exercise_in bytes) (fault kind line column) (fault other l c)
    ((faults-read bytes kind line column).0 has) ((faults-read bytes other l c).0 its) in
    (ap (λ f. f.kind) same, ap (λ f. f.line) same, ap (λ f. f.column) same)

each : (bytes : List ℕ) (read : Result Exercise (Fault TextKind)) → exercise_in bytes ≡ read
    → ((ex : Exercise) × IsTextOf bytes ex)
    ⊎ ((kind : TextKind) × (line : ℕ) × (column : ℕ) × HasFault bytes kind line column)
each bytes (Ok ex) e = inl (ex, (texts-read bytes ex).1 e)
each bytes (Err f) e = inr (f.kind, f.line, f.column, (faults-read bytes f.kind f.line f.column).1 e)

pub texts-or_faults : NoteTextsOrFaults
texts-or_faults bytes = each bytes (exercise_in bytes) refl

one_value : (read : Result Exercise (Fault TextKind)) (a b : Exercise) → read ≡ Ok a → read ≡ Ok b → a ≡ b
one_value read a b h k = cc

pub texts-of_one : NoteTextsAreOfOne
texts-of_one bytes ex other is its = one_value (exercise_in bytes) ex other ((texts-read bytes ex).0 is)
    ((texts-read bytes other).0 its)

no_value : (read : Result Exercise (Fault TextKind)) (a : Exercise) (f : Fault TextKind) → read ≡ Ok a → read ≡ Err f → ⊥
no_value read a f h k = grind (arith, h, k)

pub texts-faultless : NoteTextsHaveNoFault
texts-faultless bytes ex kind line column is has =
    no_value (exercise_in bytes) ex (fault kind line column) ((texts-read bytes ex).0 is)
    ((faults-read bytes kind line column).0 has)

-- a text that is too long has that fault
pub too_long : (bytes : List ℕ) → 65536 < length bytes → HasFault bytes TooLong 1 1
unfolding HasFault
too_long bytes long = IsTextFault.too_long long refl
