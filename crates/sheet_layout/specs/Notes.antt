-- What is drawn of a written note or rest.
use Rattle.std.specs.Prelude.{ℕ, ◌+◌, ◌-◌, ◌*◌, ◌%◌, ◌/◌, ◌==◌, ◌&&◌, Bool, true, false, nat_le, nat_lt, List, [], ◌∷◌, ◌++◌, if◌then◌else◌}
use Rattle.std.specs.List.{flat_map, range_with_len}
use Rattle.fux_pitch.specs.declared.pitch.Pitch.{Pitch}
use Rattle.fux_pitch.specs.Pitch.{degree_of}
use Rattle.written_notes.specs.declared.bar.Written.{Written}
use Rattle.written_notes.specs.declared.beams.Beam.{Beam}
use Rattle.written_notes.specs.declared.beams.Beam.TheVariants.{Without, Begins, Ends}
use Rattle.written_notes.specs.declared.signs.Sign.{Sign}
use Rattle.written_notes.specs.declared.signs.Sign.TheVariants as sign
use Rattle.written_notes.specs.declared.values.Base.{Base}
use Rattle.written_notes.specs.declared.values.Base.TheVariants.{Whole, Half, Quarter, Eighth}
use Rattle.sheet_layout.specs.Spacing.{slot_x}
use Rattle.sheet_layout.specs.declared.heads.Head.{Head}
use Rattle.sheet_layout.specs.declared.heads.NotePlace.{NotePlace}
use Rattle.sheet_layout.specs.declared.shapes.Point.{Point}
use Rattle.sheet_layout.specs.declared.shapes.Shape.{Shape}
use Rattle.sheet_layout.specs.declared.shapes.Shape.TheVariants.{At, Stem, Joined, Tie}
use Rattle.sheet_layout.specs.declared.shapes.Symbol.{Symbol}
use Rattle.sheet_layout.specs.declared.shapes.Symbol.TheVariants.{WholeHead, HalfHead, BlackHead, WholeRest, HalfRest, QuarterRest, EighthRest, UpFlag, DownFlag, Sharp, Flat, Natural, Dot, Ledger}
use Rattle.sheet_layout.specs.Heads.{head_of, stem_x, tip}
use Rattle.sheet_layout.specs.Shapes.{when}

abbrev pub point : ℕ → ℕ → Point
point x y = record { x = x; y = y }

-- ---- heads

-- the symbol of a head
abbrev pub head_symbol : Base → Symbol
head_symbol Whole = WholeHead
head_symbol Half = HalfHead
head_symbol Quarter = BlackHead
head_symbol Eighth = BlackHead

-- the ledger lines so many spaces from the middle line, where the degree reaches that far
abbrev pub ledger_at : ℕ → ℕ → ℕ → ℕ → List Shape
ledger_at x middle degree spaces =
    when (nat_le (middle + 2 * spaces) degree) (At Ledger (point x (600 - 8 * spaces)))
    ++ when (nat_le (degree + 2 * spaces) middle) (At Ledger (point x (600 + 8 * spaces)))

-- the ledger lines of a head: from the third space from the middle line on
abbrev pub ledgers : ℕ → ℕ → ℕ → List Shape
ledgers x middle degree = flat_map (ledger_at x middle degree) (range_with_len 3 11)

-- ---- stems

-- a semibreve has no stem
abbrev pub has_stem : Base → Bool
has_stem Whole = false
has_stem Half = true
has_stem Quarter = true
has_stem Eighth = true

-- a quaver that no beam joins has a flag
abbrev pub has_flag : Base → Beam → Bool
has_flag Eighth Without = true
has_flag Eighth Begins = false
has_flag Eighth Ends = false
has_flag Whole beam = false
has_flag Half beam = false
has_flag Quarter beam = false

-- a beam is drawn with the first of its two notes
abbrev pub starts_beam : Beam → Bool
starts_beam Without = false
starts_beam Begins = true
starts_beam Ends = false

-- a stem from its head to its tip
abbrev pub stem : Head → Shape
stem head = Stem (point (stem_x head.up head.x) head.y) (tip head.up head.y head.far)

-- a flag at a stem's tip
abbrev pub flag : Head → Shape
flag head =
    if head.up then At UpFlag (point head.x (tip head.up head.y head.far + 28))
    else At DownFlag (point head.x (tip head.up head.y head.far - 28))

-- a beam from a stem's tip to that of the next slot's note
abbrev pub beam : Head → Shape
beam head =
    Joined head.up (point (stem_x head.up head.x) (tip head.up head.y head.far))
    (point (stem_x head.up head.next) (tip head.up head.far head.y))

-- what stands at a head's stem
abbrev pub stems : Base → Head → List Shape
stems base head =
    when (has_stem base) (stem head) ++ when (has_flag base head.beam) (flag head)
    ++ when (starts_beam head.beam) (beam head)

-- ---- signs, dots, ties

-- a sign, 13 before its head
abbrev pub signs : Sign → ℕ → ℕ → List Shape
signs sign.Plain x y = []
signs sign.Sharp x y = At Sharp (point (x - 13) y) ∷ []
signs sign.Flat x y = At Flat (point (x - 13) y) ∷ []
signs sign.Natural x y = At Natural (point (x - 13) y) ∷ []

-- dots behind a place
abbrev pub dots : ℕ → ℕ → ℕ → List Shape
dots count x y =
    when (nat_lt 0 count) (At Dot (point (x + 11) y))
    ++ when (nat_lt 1 count) (At Dot (point (x + 16) y))

-- the height of a note's dots: between the lines
abbrev pub dot_height : ℕ → ℕ → ℕ → ℕ
dot_height middle degree y = if degree % 2 == middle % 2 then y - 4 else y

-- where the tie behind a note ends: before the next note of the bar, or where ties to the next
-- bar do
abbrev pub tie_to : List Written → NotePlace → Written → ℕ
tie_to all place note =
    if nat_lt (note.slot + note.slots) 8 then slot_x all (note.slot + note.slots) - 6
    else place.tie_end

-- the tie behind a note, and at a system's begin the end of the one before it
abbrev pub ties : List Written → NotePlace → Written → Head → List Shape
ties all place note head =
    when note.tie_out (Tie head.up (point (head.x + 6) head.y) (tie_to all place note))
    ++ when (note.tie_in && (note.slot == 0) && place.first)
    (Tie head.up (point (head.x - 18) head.y) (head.x - 6))

-- ---- notes and rests

-- what is drawn of a head, where its note has this degree
abbrev pub head_shapes : List Written → NotePlace → Written → ℕ → Head → List Shape
head_shapes all place note degree head =
    ledgers head.x place.middle degree
    ++ At (head_symbol note.value.base) (point head.x head.y) ∷ []
    ++ stems note.value.base head ++ signs note.sign head.x head.y
    ++ dots note.value.dots head.x (dot_height place.middle degree head.y)
    ++ ties all place note head

-- what is drawn of one of a bar's notes with a pitch, among the notes of all voices
abbrev pub note_shapes : List Written → List Written → NotePlace → Written → Pitch → List Shape
note_shapes all notes place note p =
    head_shapes all place note (degree_of p) (head_of all notes place.middle note p)

-- the symbol of a rest
abbrev pub rest_symbol : Base → Symbol
rest_symbol Whole = WholeRest
rest_symbol Half = HalfRest
rest_symbol Quarter = QuarterRest
rest_symbol Eighth = EighthRest

-- where a rest stands: at its slot, and in the bar's middle where it fills the bar
abbrev pub rest_x : List Written → NotePlace → Written → ℕ
rest_x all place note = if note.slots == 8 then place.width / 2 else slot_x all note.slot

-- what is drawn of a rest, at the middle line, among the notes of all voices
abbrev pub rest_shapes : List Written → NotePlace → Written → List Shape
rest_shapes all place note =
    At (rest_symbol note.value.base) (point (rest_x all place note) 600) ∷ []
    ++ dots note.value.dots (rest_x all place note) 596
