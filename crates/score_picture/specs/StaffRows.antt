-- The rows of staves, clefs, names and bar lines. A bar's rows stand in a group whose origin is its
-- left and its system's begin.
use Rattle.std.specs.Prelude.{ℕ, ◌+◌, ◌-◌, ◌*◌, ◌==◌, Bool, List, [], ◌∷◌, ◌++◌, codes, length, slice_get, if◌then◌else◌}
use Rattle.std.specs.Fmt.{decimal}
use Rattle.std.specs.List.{flat_map, range_with_len}
use Rattle.std.specs.Option.{option_map_or}
use Rattle.fux_grid.specs.declared.exercise.Exercise.{Exercise}
use Rattle.written_notes.specs.declared.clefs.Clef.{Clef}
use Rattle.written_notes.specs.declared.clefs.Clef.TheVariants.{Treble, Bass, Alto}
use Rattle.written_notes.specs.Clefs.{clef_of}
use Rattle.sheet_layout.specs.declared.page.BarPlace.{BarPlace}
use Rattle.sheet_layout.specs.declared.system.Staff.{Staff}
use Rattle.score_picture.specs.Pieces.{joined}

-- ---- staves

-- a level line from one place to another
unfoldable pub level : List ℕ → ℕ → ℕ → List ℕ
level from to y =
    joined (codes "<path d=\"M" ∷ from ∷ codes " " ∷ decimal y ∷ codes "H" ∷ decimal to
    ∷ codes "\" stroke=\"#000\"/>\n" ∷ [])

-- the lines of a staff begin at the bar's left, the first bar's of a system 50 before it
abbrev pub lines_begin : Bool → List ℕ
lines_begin first = if first then codes "-50" else codes "0"

-- the five lines of a staff in a bar, from this height down
abbrev pub five_lines : List ℕ → ℕ → ℕ → List ℕ
five_lines from width top =
    flat_map (λ line. level from width (top + 8 * line)) (range_with_len 0 5)

-- a symbol that stands in a place, at a height
unfoldable pub symbol_at : List ℕ → List ℕ → ℕ → List ℕ
symbol_at name place y =
    joined (codes "<use xlink:href=\"#" ∷ name ∷ codes "\" x=\"" ∷ place ∷ codes "\" y=\""
    ∷ decimal y ∷ codes "\"/>\n" ∷ [])

-- the name of a clef's drawing, and the height of its own line, where this is the middle line's
abbrev pub clef_name : Clef → List ℕ
clef_name Treble = codes "G"
clef_name Bass = codes "F"
clef_name Alto = codes "C"

abbrev pub clef_y : Clef → ℕ → ℕ
clef_y Treble y = y + 8
clef_y Bass y = y - 8
clef_y Alto y = y

-- what a voice is called
abbrev pub called : Exercise → ℕ → List ℕ
called ex voice = if voice == ex.cantus_voice then codes "C.f." else codes "voice"

-- a voice's name and number before its staff
unfoldable pub name_row : List ℕ → ℕ → ℕ → List ℕ
name_row name voice y =
    joined (codes "<text x=\"-58\" y=\"" ∷ decimal y
    ∷ codes "\" font-size=\"13\" text-anchor=\"end\">" ∷ name ∷ codes " " ∷ decimal voice
    ∷ codes "</text>\n" ∷ [])

-- at a system's begin a staff has its clef, and its voice's name before it
abbrev pub opening : Exercise → Bool → Staff → List ℕ
opening ex first staff =
    if first
    then symbol_at (clef_name (clef_of ex staff.voice)) (codes "-40")
    (clef_y (clef_of ex staff.voice) staff.y)
    ++ name_row (called ex staff.voice) staff.voice (staff.y + 5)
    else []

-- in the first bar, counted from 0, it has the sign of the cut
abbrev pub cut_sign : ℕ → ℕ → List ℕ
cut_sign bar y = if bar == 0 then symbol_at (codes "t") (codes "-10") y else []

-- a bar begins a system
abbrev pub is_first : BarPlace → Bool
is_first place = place.left == 128

-- what stands of a staff in a bar besides its notes
abbrev pub staff_rows : Exercise → ℕ → BarPlace → Staff → List ℕ
staff_rows ex bar place staff =
    five_lines (lines_begin (is_first place)) place.room.width (staff.y - 16)
    ++ opening ex (is_first place) staff ++ cut_sign bar staff.y

-- ---- bar lines

-- an upright line from one height to another, so wide
unfoldable pub upright : ℕ → ℕ → ℕ → ℕ → List ℕ
upright x from to width =
    joined (codes "<path d=\"M" ∷ decimal x ∷ codes " " ∷ decimal from ∷ codes "V" ∷ decimal to
    ∷ codes "\" stroke=\"#000\" stroke-width=\"" ∷ decimal width ∷ codes "\"/>\n" ∷ [])

-- behind a bar that ends here stands a line, behind the last one two, of which one is wide
abbrev pub bar_line : Bool → ℕ → ℕ → ℕ → List ℕ
bar_line last x from to =
    if last then upright (x - 6) from to 1 ++ upright (x - 2) from to 4 else upright x from to 1

-- the line at a system's left
unfoldable pub left_line : ℕ → ℕ → List ℕ
left_line from to =
    joined (codes "<path d=\"M-50 " ∷ decimal from ∷ codes "V" ∷ decimal to
    ∷ codes "\" stroke=\"#000\"/>\n" ∷ [])

-- the number of a bar above its system
unfoldable pub bar_number : ℕ → ℕ → List ℕ
bar_number number y =
    joined (codes "<text x=\"-50\" y=\"" ∷ decimal y ∷ codes "\" font-size=\"9\">"
    ∷ decimal number ∷ codes "</text>\n" ∷ [])

-- at a system's begin stand its left line and the number of the bar, which is counted from 0
abbrev pub system_begin : Bool → ℕ → ℕ → ℕ → List ℕ
system_begin first bar from to =
    if first then left_line from to ++ bar_number (bar + 1) (from - 8) else []

-- the heights of the first staff's highest line and of the last one's lowest
abbrev pub system_top : List Staff → ℕ
system_top staves = option_map_or (λ staff. staff.y - 16) (slice_get staves 0) 0

abbrev pub system_foot : List Staff → ℕ
system_foot staves = option_map_or (λ staff. staff.y + 16) (slice_get staves (length staves - 1)) 0

-- the upright lines of a bar, and at a system's begin its number
abbrev pub bar_lines : Exercise → List Staff → ℕ → BarPlace → List ℕ
bar_lines ex staves bar place =
    system_begin (is_first place) bar (system_top staves) (system_foot staves)
    ++ bar_line (bar + 1 == ex.bars) place.room.width (system_top staves) (system_foot staves)
