-- The rows of the notes of a bar of a voice.
use Rattle.std.specs.Prelude.{ℕ, ◌+◌, ◌-◌, Bool, List, [], ◌∷◌, ◌++◌, Option, None, Some, codes, if◌then◌else◌}
use Rattle.std.specs.Fmt.{decimal}
use Rattle.std.specs.List.{flat_map}
use Rattle.std.specs.Option.{option_map_or}
use Rattle.fux_grid.specs.declared.exercise.Exercise.{Exercise}
use Rattle.written_notes.specs.declared.bar.Written.{Written}
use Rattle.written_notes.specs.declared.marks.SheetMark.{SheetMark}
use Rattle.written_notes.specs.declared.marks.Spot.{Spot}
use Rattle.written_notes.specs.Marks.{is_red, rules_at}
use Rattle.written_notes.specs.Sheets.{is_left}
use Rattle.sheet_layout.specs.declared.page.BarPlace.{BarPlace}
use Rattle.sheet_layout.specs.declared.system.Staff.{Staff}
use Rattle.sheet_layout.specs.Spacing.{slot_x}
use Rattle.sheet_layout.specs.declared.heads.NotePlace.{NotePlace}
use Rattle.sheet_layout.specs.declared.shapes.Shape.{Shape}
use Rattle.sheet_layout.specs.Notes.{note_shapes, rest_shapes}
use Rattle.score_picture.specs.Rows.{shape_row}
use Rattle.score_picture.specs.StaffRows.{is_first}

-- ---- what is drawn

-- what is drawn of a rest, among the notes of all voices in the bar: nothing where it is left blank
abbrev pub resting : Exercise → List Written → NotePlace → Spot → List Shape
resting ex all place spot =
    if is_left ex spot.voice (spot.bar - 1) spot.note.slot then []
    else rest_shapes all place spot.note

-- what is drawn of one of a bar's notes, among those of all voices
abbrev pub drawn : Exercise → List Written → List Written → NotePlace → Spot → List Shape
drawn ex all notes place spot =
    option_map_or (note_shapes all notes place spot.note) spot.note.pitch
    (resting ex all place spot)

-- ---- rows

-- the rows of shapes
abbrev pub shape_rows : List Shape → List ℕ
shape_rows shapes = flat_map shape_row shapes

-- the rows of a note's shapes, red where a mark is at it
unfoldable pub red_rows : List Shape → List ℕ
red_rows shapes =
    codes "<g fill=\"#c00000\" color=\"#c00000\">\n" ++ shape_rows shapes ++ codes "</g>\n"

abbrev pub colored : Bool → List Shape → List ℕ
colored red shapes = if red then red_rows shapes else shape_rows shapes

-- the row of a rule
unfoldable pub rule_row : ℕ → ℕ → ℕ → List ℕ
rule_row x y rule =
    codes "<text x=\"" ++ decimal x ++ codes "\" y=\"" ++ decimal y
    ++ codes "\" font-size=\"8\" font-weight=\"bold\" fill=\"#c00000\">S" ++ decimal rule
    ++ codes "</text>\n"

-- the rows of rules, each 11 above the one before it
abbrev pub rule_rows : ℕ → ℕ → List ℕ → List ℕ
rule_rows x y [] = []
rule_rows x y (rule ∷ rules) = rule_row x y rule ++ rule_rows x (y - 11) rules

-- the rows of a note that is drawn by these shapes, and those of the rules that are shown at it,
-- from a point up
abbrev pub shown : List SheetMark → List Shape → ℕ → ℕ → Spot → List ℕ
shown marks shapes x y spot =
    colored (is_red marks spot) shapes ++ rule_rows x y (rules_at marks spot)

-- ---- a bar of a voice

-- where ties from a bar to the next one end: before the first note of that, where it stands in the
-- same system; else before the bar line
abbrev pub tie_end : BarPlace → Option BarPlace → ℕ
tie_end place None = place.room.width - 3
tie_end place (Some next) =
    if is_first next then place.room.width - 3 else (place.room.width + next.room.first) - 6

-- what the notes of a bar on a staff have in common
abbrev pub note_place : BarPlace → ℕ → Staff → NotePlace
note_place place end staff = record {
  middle = staff.middle;
  width = place.room.width;
  tie_end = end;
  first = is_first place;
}

-- a note of a bar that is counted from 0
abbrev pub spot_of : Staff → ℕ → Written → Spot
spot_of staff bar note = record { voice = staff.voice; bar = bar + 1; note = note }

-- the rows of one of a bar's notes: its rules stand above all notes of the staff
abbrev pub written_rows : Exercise → List SheetMark → ℕ → BarPlace → ℕ → List Written → Staff → List Written → Written → List ℕ
written_rows ex marks bar place end all staff notes note =
    shown marks (drawn ex all notes (note_place place end staff) (spot_of staff bar note))
    (slot_x all note.slot - 7) (570 - staff.above) (spot_of staff bar note)

-- the rows of some of a bar's notes
abbrev pub note_rows : Exercise → List SheetMark → ℕ → BarPlace → ℕ → List Written → Staff → List Written → List Written → List ℕ
note_rows ex marks bar place end all staff notes some =
    flat_map (written_rows ex marks bar place end all staff notes) some

-- the group of a staff's notes: their heights say 600 for its middle line
unfoldable pub notes_group : ℕ → List ℕ → List ℕ
notes_group y rows =
    codes "<g transform=\"translate(0," ++ decimal y ++ codes ") translate(0,-600)\">\n" ++ rows
    ++ codes "</g>\n"
