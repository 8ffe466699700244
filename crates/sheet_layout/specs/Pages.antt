-- Where bars and staves stand on the page.
use Rattle.std.specs.Prelude.{ℕ, zero, suc, ◌+◌, ◌-◌, ◌*◌, ◌≤◌, ◌≡◌, nat_le, List, [], ◌∷◌, Some, is_some, length, map, max, min, slice_index_or, if◌then◌else◌}
use Rattle.std.specs.List.{range_with_len}
use Rattle.std.specs.Option.{option_map_or}
use Rattle.fux_pitch.specs.declared.pitch.Pitch.{Pitch}
use Rattle.fux_pitch.specs.Pitch.{degree_of}
use Rattle.fux_grid.specs.declared.cell.Cell.{Cell}
use Rattle.fux_grid.specs.Cells.{cell_in, pitch_of}
use Rattle.fux_grid.specs.declared.exercise.Exercise.{Exercise}
use Rattle.written_notes.specs.declared.bar.Written.{Written}
use Rattle.written_notes.specs.declared.marks.SheetMark.{SheetMark}
use Rattle.written_notes.specs.Bars.{bar_notes}
use Rattle.written_notes.specs.Clefs.{clef_of, middle_of}
use Rattle.written_notes.specs.Marks.{rules_at}
use Rattle.sheet_layout.specs.declared.page.BarPlace.{BarPlace}
use Rattle.sheet_layout.specs.declared.page.BarRoom.{BarRoom}
use Rattle.sheet_layout.specs.declared.system.Staff.{Staff}
use Rattle.sheet_layout.specs.declared.system.StaffRoom.{StaffRoom}
use Rattle.sheet_layout.specs.Spacing.{all_notes, bar_width, slot_x}

-- ---- bars

-- how wide a bar is at least: on a sheet to fill in there is room to write
abbrev pub least_width : Exercise → ℕ
least_width ex = if is_some ex.setting then 0 else 150

-- what a bar needs, counted from 0
abbrev pub bar_room : Exercise → List (List Cell) → ℕ → BarRoom
bar_room ex lines bar = record {
  width = max (bar_width (all_notes ex lines bar)) (least_width ex);
  first = slot_x (all_notes ex lines bar) 0;
}

-- a bar stands behind another one where it fits the page; else it begins the next system, 20 below
-- the end of the one before
abbrev pub next_place : ℕ → BarPlace → BarRoom → BarPlace
next_place tall before room =
    if nat_le (before.left + before.room.width + room.width) 1030
    then record { top = before.top; left = before.left + before.room.width; room = room }
    else record { top = before.top + tall + 20; left = 128; room = room }

-- before all bars
abbrev pub page_begin : BarPlace
page_begin = record { top = 60; left = 128; room = record { width = 0; first = 0 } }

-- the place of the last of so many bars, where a system is so tall
abbrev pub place_of : Exercise → List (List Cell) → ℕ → ℕ → BarPlace
place_of ex lines tall zero = page_begin
place_of ex lines tall (suc bar) =
    next_place tall (place_of ex lines tall bar) (bar_room ex lines bar)

-- the places of all bars
abbrev pub bar_places : Exercise → List (List Cell) → ℕ → List BarPlace
bar_places ex lines tall = map (λ bar. place_of ex lines tall (suc bar)) (range_with_len 0 ex.bars)

-- no bar goes beyond the page's margin
abbrev pub BarsFitThePage : Type 0
BarsFitThePage =
    (ex : Exercise) (lines : List (List Cell)) (tall bar : ℕ)
    → (place_of ex lines tall bar).left + (place_of ex lines tall bar).room.width ≤ 1030

-- ---- staves

-- the higher of a degree and of a cell's, and the lower
abbrev pub higher : ℕ → Cell → ℕ
higher high cell = option_map_or (λ p. max (degree_of p) high) (pitch_of cell) high

abbrev pub lower : ℕ → Cell → ℕ
lower low cell = option_map_or (λ p. min (degree_of p) low) (pitch_of cell) low

-- the higher of a degree and of the highest of a line, and the lower of a degree and of the lowest
abbrev pub high_with : ℕ → List Cell → ℕ
high_with high [] = high
high_with high (cell ∷ cells) = high_with (higher high cell) cells

abbrev pub low_with : ℕ → List Cell → ℕ
low_with low [] = low
low_with low (cell ∷ cells) = low_with (lower low cell) cells

-- how many rules are shown at a note of a bar, counted from 1
abbrev pub rule_count : List SheetMark → ℕ → ℕ → Written → ℕ
rule_count marks voice bar note =
    length (rules_at marks (record { voice = voice; bar = bar; note = note }))

-- the most rules that are shown at one of these notes of a bar, or another number that is greater
abbrev pub rules_with : List SheetMark → ℕ → ℕ → ℕ → List Written → ℕ
rules_with marks voice bar most [] = most
rules_with marks voice bar most (note ∷ notes) =
    rules_with marks voice bar (max (rule_count marks voice bar note) most) notes

-- the most rules that are shown at a note of the first so many bars of a line
abbrev pub rules_in : List SheetMark → ℕ → List Cell → ℕ → ℕ
rules_in marks voice line zero = 0
rules_in marks voice line (suc bar) =
    rules_with marks voice (suc bar) (rules_in marks voice line bar) (bar_notes line bar)

-- what a staff needs whose middle line has this degree: 4 for each degree beyond the staff, and 11
-- for each rule above its notes
abbrev pub staff_room : List SheetMark → ℕ → List Cell → ℕ → ℕ → StaffRoom
staff_room marks voice line bars middle = record {
  above = 4 * (high_with (middle + 4) line - (middle + 4));
  rules = 11 * rules_in marks voice line bars;
  below = 4 * ((middle - 4) - low_with (middle - 4) line);
}

-- the staff of a voice below a height: 22 around it, and 16 from its middle line to its ends
abbrev pub next_staff : ℕ → ℕ → ℕ → StaffRoom → Staff
next_staff from voice middle room = record {
  voice = voice;
  middle = middle;
  above = room.above;
  y = from + 38 + (room.above + room.rules);
  bottom = from + 38 + (room.above + room.rules) + 38 + room.below;
}

-- the staff of a voice of an exercise below a height
abbrev pub voice_staff : Exercise → List SheetMark → List (List Cell) → ℕ → ℕ → Staff
voice_staff ex marks lines from voice =
    next_staff from voice (middle_of (clef_of ex voice))
    (staff_room marks voice (slice_index_or lines voice []) ex.bars (middle_of (clef_of ex voice)))

-- where the first so many staves end, from the highest voice
abbrev pub staves_end : Exercise → List SheetMark → List (List Cell) → ℕ → ℕ
staves_end ex marks lines zero = 0
staves_end ex marks lines (suc k) =
    (voice_staff ex marks lines (staves_end ex marks lines k) (ex.voices - suc k)).bottom

-- one of the staves, counted from 0 from the highest voice
abbrev pub staff_of : Exercise → List SheetMark → List (List Cell) → ℕ → Staff
staff_of ex marks lines k =
    voice_staff ex marks lines (staves_end ex marks lines k) (ex.voices - suc k)

-- the staves of all voices, the highest first
abbrev pub staves : Exercise → List SheetMark → List (List Cell) → List Staff
staves ex marks lines = map (staff_of ex marks lines) (range_with_len 0 ex.voices)

-- a head of a degree stands 22 or more within its staff's room, which begins at a height
abbrev pub StandsWithin : ℕ → Staff → ℕ → Type 0
StandsWithin from staff degree =
    (from + 22 + 4 * degree ≤ staff.y + 4 * staff.middle)
    × (staff.y + 4 * staff.middle + 22 ≤ staff.bottom + 4 * degree)

-- so does each note's of a voice, however high or low: no note touches another staff's
abbrev pub NotesStandInTheirRoom : Type 0
NotesStandInTheirRoom =
    (ex : Exercise) (marks : List SheetMark) (lines : List (List Cell)) (from voice i : ℕ)
    (p : Pitch)
    → pitch_of (cell_in (slice_index_or lines voice []) i) ≡ Some p
    → StandsWithin from (voice_staff ex marks lines from voice) (degree_of p)
