-- The report of a class of exercises: the reports of its exercises, one after the other, and a line
-- that counts them.
use Rattle.std.specs.Prelude.{◌≡◌, ℕ, ◌≤◌, ◌<◌, Bool, true, false, List, [], ◌∷◌, ◌++◌, length, zip, codes, count_by, string_bytes, sum_by, slice_index_or, String, Result, Ok, Err, IfOk}
use Rattle.std.specs.Fmt.{decimal}
use Rattle.std.specs.List.{All, AllZip, flat_map}
use Rattle.std.specs.Fork.{slice_chunk}
use Rattle.std.specs.Result.{IsOk}
use Rattle.std.specs.declared.alloc.Global.{Global}
use Rattle.fux_pitch.specs.declared.memory.Memory.{Memory}
use Rattle.class_marker.specs.declared.class.ClassReport.{ClassReport}
use Rattle.class_marker.specs.declared.one.Marking.{Marking}
use Rattle.class_marker.specs.declared.one.Marking.TheVariants.{Marked, Refused}
use Rattle.class_marker.specs.declared.one.Text.{Text}
use Rattle.class_marker.specs.Markings.{IsMarkingOf}
use Rattle.class_marker.specs.Unmarked.{unmarked_text}

-- ---- the report of one exercise

-- the report of the exercise of this name, of which `mark` says this: the name on a line, and then
-- the lines that `mark` writes, or the line that tells why it refuses the text
abbrev pub report_of : List ℕ → Marking → List ℕ
report_of name (Marked lines) = name ++ 10 ∷ string_bytes lines.text
report_of name (Refused why) = name ++ 10 ∷ unmarked_text name why ++ 10 ∷ []

-- there is a mark
abbrev pub has_mark : Marking → Bool
has_mark (Marked lines) = lines.has_mark
has_mark (Refused why) = false

-- the text is refused
abbrev pub is_refused : Marking → Bool
is_refused (Marked lines) = false
is_refused (Refused why) = true

-- ---- the report of a class

-- the name of an exercise with what `mark` says of it
abbrev pub Entry : Type 0
Entry = List ℕ × Marking

-- the reports of exercises, one after the other
abbrev pub reports_of : List Entry → List ℕ
reports_of entries = flat_map (λ entry. report_of entry.0 entry.1) entries

-- so many of them have a mark, and so many are refused
abbrev pub marked_in : List Entry → ℕ
marked_in entries = count_by (λ entry. has_mark entry.1) entries

abbrev pub refused_in : List Entry → ℕ
refused_in entries = count_by (λ entry. is_refused entry.1) entries

-- the last line: how many exercises there are, how many of them have a mark, and how many are
-- refused
abbrev pub class_line : ℕ → ℕ → ℕ → List ℕ
class_line count marked refused =
    codes "class " ++ decimal count ++ codes ", with marks " ++ decimal marked ++ codes ", refused " ++ decimal refused
    ++ 10 ∷ []

-- the report of a class
abbrev pub class_text : List Entry → List ℕ
class_text entries = reports_of entries ++ class_line (length entries) (marked_in entries) (refused_in entries)

-- names beside the texts of their files
abbrev pub Exercises : Type 0
Exercises = List (String Global × Text)

-- an exercise's name with what `mark` says of its text
abbrev pub IsEntry : String Global × Text → Entry → Type 0
IsEntry exercise entry = (entry.0 ≡ string_bytes exercise.0) × IsMarkingOf exercise.1 entry.1

-- the report of a class of exercises
pub record IsReport (exercises : Exercises) (report : ClassReport) : Type 0 where
  pub entries : List Entry
  pub each : AllZip IsEntry exercises entries
  pub text : string_bytes report.text ≡ class_text entries
  pub marked : report.marked ≡ marked_in entries
  pub refused : report.refused ≡ refused_in entries

-- ---- its parts

-- the reports of some exercises without the last line
pub record IsPart (exercises : Exercises) (part : ClassReport) : Type 0 where
  pub entries : List Entry
  pub each : AllZip IsEntry exercises entries
  pub text : string_bytes part.text ≡ reports_of entries
  pub marked : part.marked ≡ marked_in entries
  pub refused : part.refused ≡ refused_in entries

-- a part that may be lacking
abbrev pub MaybePart : Type 0
MaybePart = Result ClassReport Memory

-- its text, and how many in it have a mark and are refused
abbrev pub text_in : MaybePart → List ℕ
text_in (Ok part) = string_bytes part.text
text_in (Err fault) = []

abbrev pub marked_of : MaybePart → ℕ
marked_of (Ok part) = part.marked
marked_of (Err fault) = 0

abbrev pub refused_of : MaybePart → ℕ
refused_of (Ok part) = part.refused
refused_of (Err fault) = 0

-- each part that is there is that of the chunk of its number
abbrev pub ArePartsOf : List (String Global) → List Text → List MaybePart → Type 0
ArePartsOf names texts parts =
    (n : ℕ) (d : MaybePart) → n < length parts → IfOk (slice_index_or parts n d) (IsPart (slice_chunk (zip names texts) 32 n))

-- no part counts more exercises than its chunk has
abbrev pub AreSmall : List MaybePart → Type 0
AreSmall parts =
    (n : ℕ) (d : MaybePart) → n < length parts
    → (marked_of (slice_index_or parts n d) ≤ 32) × (refused_of (slice_index_or parts n d) ≤ 32)

-- each part is there, and this is one after the other
pub record IsGathered (parts : List MaybePart) (whole : ClassReport) : Type 0 where
  pub each : All IsOk parts
  pub text : string_bytes whole.text ≡ flat_map text_in parts
  pub marked : whole.marked ≡ sum_by marked_of parts
  pub refused : whole.refused ≡ sum_by refused_of parts
