-- The written notes of a bar on a sheet, with a setting or without one, fill it and say its cells,
-- ties join what is held, and each mark is at one note.
use Rattle.std.specs.Prelude.{◌≡◌, ℕ, ◌+◌, ◌-◌, ◌*◌, ◌<◌, ◌≤◌, Bool, List, [], ◌∷◌, filter, length, replicate, if◌then◌else◌}
use Rattle.std.specs.List.{flat_map}
use Rattle.std.specs.Option.{option_map_or}
use Rattle.fux_grid.specs.declared.cell.Cell.{Cell}
use Rattle.fux_grid.specs.declared.cell.Cell.TheVariants.{Rest, Hold, Start}
use Rattle.fux_grid.specs.declared.exercise.Exercise.{Exercise}
use Rattle.fux_grid.specs.Cells.{cell_in, is_hold}
use Rattle.written_notes.specs.declared.bar.Written.{Written}
use Rattle.written_notes.specs.declared.marks.SheetMark.{SheetMark}
use Rattle.written_notes.specs.Bars.{bar_cells}
use Rattle.written_notes.specs.Marks.{is_at}
use Rattle.written_notes.specs.Sheets.{sheet_notes}
use Rattle.score_picture.specs.Hearing.{FollowOn}

-- the cells that a written note or rest says: a note goes on where it is tied to the one before it,
-- and else it starts
abbrev pub said_cells : Written → List Cell
said_cells note =
    option_map_or (λ p. (if note.tie_in then Hold p else Start p) ∷ replicate (note.slots - 1) (Hold p)) note.pitch
    (replicate note.slots Rest)

-- the written notes of a bar say its cells, for a line of cells each of which may follow the one
-- before it
abbrev pub NotesSayCells : Type 0
NotesSayCells =
    (ex : Exercise) (v : ℕ) (line : List Cell) (bar : ℕ) → FollowOn Rest line
    → flat_map said_cells (sheet_notes ex v line bar) ≡ bar_cells line bar

-- written notes fill a bar from a slot on, one behind the other
abbrev pub FillFrom : ℕ → List Written → Type 0
FillFrom slot [] = slot ≡ 8
FillFrom slot (note ∷ notes) = (note.slot ≡ slot) × (1 ≤ note.slots) × FillFrom (slot + note.slots) notes

-- the written notes of a bar fill it
abbrev pub NotesFillBars : Type 0
NotesFillBars =
    (ex : Exercise) (v : ℕ) (line : List Cell) (bar : ℕ) → FillFrom 0 (sheet_notes ex v line bar)

-- of these notes each is tied in just where the one before it is tied out; before the first one
-- something is held or not, and behind the last one too
abbrev pub TiesMeet : Bool → List Written → Bool → Type 0
TiesMeet before [] behind = before ≡ behind
TiesMeet before (note ∷ notes) behind = (note.tie_in ≡ before) × TiesMeet note.tie_out notes behind

-- ties join what is held, within each bar and from one to the next
abbrev pub TiesJoinNotes : Type 0
TiesJoinNotes =
    (ex : Exercise) (v : ℕ) (line : List Cell) (bar : ℕ) → FollowOn Rest line
    → TiesMeet (is_hold (cell_in line (8 * bar))) (sheet_notes ex v line bar) (is_hold (cell_in line (8 * bar + 8)))

-- each mark is at one written note of a voice in its bar, so that it makes that one red, and no
-- other
abbrev pub MarksAreAtNotes : Type 0
MarksAreAtNotes =
    (ex : Exercise) (v : ℕ) (line : List Cell) (bar : ℕ) (mark : SheetMark)
    → mark.bar ≡ bar + 1 → mark.slot < 8
    → length (filter (is_at mark (bar + 1)) (sheet_notes ex v line bar)) ≡ 1
