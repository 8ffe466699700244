-- How far to both sides what is drawn of a note reaches, and that it stands apart from all else.
use Rattle.std.specs.Prelude.{◌≡◌, ℕ, ◌+◌, ◌-◌, ◌≤◌, Bool, true, false, List, [], ◌∷◌, ◌++◌, filter}
use Rattle.std.specs.List.{All, Contains}
use Rattle.std.specs.Option.{option_map_or}
use Rattle.written_notes.specs.declared.bar.Written.{Written}
use Rattle.written_notes.specs.Values.{value_of}
use Rattle.sheet_layout.specs.declared.heads.Head.{Head}
use Rattle.sheet_layout.specs.declared.heads.NotePlace.{NotePlace}
use Rattle.sheet_layout.specs.declared.shapes.Shape.{Shape}
use Rattle.sheet_layout.specs.declared.shapes.Shape.TheVariants.{At, Stem, Joined, Tie}
use Rattle.sheet_layout.specs.declared.shapes.Symbol.{Symbol}
use Rattle.sheet_layout.specs.declared.shapes.Symbol.TheVariants.{WholeHead, HalfHead, BlackHead, WholeRest, HalfRest, QuarterRest, EighthRest, UpFlag, DownFlag, Sharp, Flat, Natural, Dot, Ledger}
use Rattle.sheet_layout.specs.Notes.{dots, head_symbol, ledgers, note_shapes, point, rest_shapes, signs, stem, stems}

-- ---- boxes

-- where a symbol at a place begins, as its drawing does, to the next whole number
abbrev pub symbol_from : Symbol → ℕ → ℕ
symbol_from WholeHead x = x - 7
symbol_from HalfHead x = x - 6
symbol_from BlackHead x = x - 6
symbol_from WholeRest x = x - 6
symbol_from HalfRest x = x - 6
symbol_from QuarterRest x = x - 4
symbol_from EighthRest x = x - 5
symbol_from UpFlag x = x + 5
symbol_from DownFlag x = x - 5
symbol_from Sharp x = x - 4
symbol_from Flat x = x - 3
symbol_from Natural x = x - 4
symbol_from Dot x = x - 2
symbol_from Ledger x = x - 9

-- and where it ends
abbrev pub symbol_to : Symbol → ℕ → ℕ
symbol_to WholeHead x = x + 7
symbol_to HalfHead x = x + 6
symbol_to BlackHead x = x + 6
symbol_to WholeRest x = x + 6
symbol_to HalfRest x = x + 6
symbol_to QuarterRest x = x + 4
symbol_to EighthRest x = x + 5
symbol_to UpFlag x = x + 12
symbol_to DownFlag x = x + 2
symbol_to Sharp x = x + 4
symbol_to Flat x = x + 4
symbol_to Natural x = x + 4
symbol_to Dot x = x + 2
symbol_to Ledger x = x + 9

-- where a shape begins, from left to right, and where it ends
abbrev pub shape_from : Shape → ℕ
shape_from (At symbol at) = symbol_from symbol at.x
shape_from (Stem from tip) = from.x - 1
shape_from (Joined up from to) = from.x
shape_from (Tie up from to) = from.x

abbrev pub shape_to : Shape → ℕ
shape_to (At symbol at) = symbol_to symbol at.x
shape_to (Stem from tip) = from.x + 1
shape_to (Joined up from to) = to.x
shape_to (Tie up from to) = to

-- a head, a rest, a ledger line, a stem, a flag, a sign or a dot: all but beams and ties, which go
-- from one note to another
abbrev pub is_own : Shape → Bool
is_own (At symbol at) = true
is_own (Stem from tip) = true
is_own (Joined up from to) = false
is_own (Tie up from to) = false

-- ---- one note and another

-- what is drawn of a written note or rest of a bar
abbrev pub written_shapes : List Written → List Written → NotePlace → Written → List Shape
written_shapes all notes place note =
    option_map_or (note_shapes all notes place note) note.pitch (rest_shapes all place note)

-- a note or rest stands among those of all voices, within the bar, and has the value of its slots
pub record IsInBar (all : List Written) (note : Written) : Type 0 where
  pub there : Contains all note
  pub some : 1 ≤ note.slots
  pub within : note.slot + note.slots ≤ 8
  pub value : note.value ≡ value_of note.slots

-- each of these shapes ends before each of those begins, but for beams and ties
abbrev pub EndBefore : List Shape → List Shape → Type 0
EndBefore these those =
    All (λ s. All (λ t. shape_to s ≤ shape_from t) (filter is_own those)) (filter is_own these)

-- what is drawn of a note or rest ends before what is drawn of one behind it in its voice
abbrev pub NotesStandApart : Type 0
NotesStandApart =
    (all notes : List Written) (place : NotePlace) (note other : Written)
    → IsInBar all note → IsInBar all other → note.slot + note.slots ≤ other.slot
    → EndBefore (written_shapes all notes place note) (written_shapes all notes place other)

-- ---- the parts of one note

-- a note's sign ends before all else of it begins, and its dots begin behind its head, its ledger
-- lines and its stem: for each head at a place as far from the bar line as the first slot is
abbrev pub PartsStandApart : Type 0
PartsStandApart =
    (note : Written) (middle degree dot : ℕ) (head : Head) → 18 ≤ head.x
    → EndBefore (signs note.sign head.x head.y)
    (ledgers head.x middle degree ++ At (head_symbol note.value.base) (point head.x head.y) ∷ []
    ++ stems note.value.base head ++ dots note.value.dots head.x dot)
    × EndBefore
    (ledgers head.x middle degree ++ At (head_symbol note.value.base) (point head.x head.y) ∷ []
    ++ stem head ∷ [])
    (dots note.value.dots head.x dot)
