-- Who reads where a head stands on the page knows its bar, its voice, its slot and its degree.
use Rattle.std.specs.Prelude.{◌≡◌, ℕ, suc, ◌+◌, ◌-◌, ◌*◌, ◌<◌, ◌≤◌, IsTrue, List, [], Some, slice_index_or}
use Rattle.fux_pitch.specs.declared.pitch.Pitch.{Pitch}
use Rattle.fux_pitch.specs.Pitch.{degree_of}
use Rattle.fux_grid.specs.declared.cell.Cell.{Cell}
use Rattle.fux_grid.specs.declared.exercise.Exercise.{Exercise}
use Rattle.fux_grid.specs.Cells.{cell_in, pitch_of}
use Rattle.written_notes.specs.declared.marks.SheetMark.{SheetMark}
use Rattle.sheet_layout.specs.Pages.{place_of, staff_of, staves_end}
use Rattle.sheet_layout.specs.Spacing.{all_notes, begins, slot_x}
use Rattle.sheet_layout.specs.Heads.{height}

-- a head of a sheet's picture: its bar and its staff, the highest being 0, its slot and its pitch
pub record SheetHead : Type 0 where
  pub bar : ℕ
  pub staff : ℕ
  pub slot : ℕ
  pub pitch : Pitch

-- such a head is drawn: a note begins at its slot, and its pitch sounds there in its staff's voice
pub record IsDrawn (ex : Exercise) (lines : List (List Cell)) (head : SheetHead) : Type 0 where
  pub staff : head.staff < ex.voices
  pub slot : head.slot < 8
  pub starts : IsTrue (begins (all_notes ex lines head.bar) head.slot)
  pub sounds : pitch_of (cell_in (slice_index_or lines (ex.voices - suc head.staff) []) (8 * head.bar + head.slot))
      ≡ Some head.pitch
  pub degree : degree_of head.pitch ≤ 150

-- where it stands on the page, from the left
abbrev pub page_x : Exercise → List (List Cell) → ℕ → SheetHead → ℕ
page_x ex lines tall head =
    (place_of ex lines tall (suc head.bar)).left + slot_x (all_notes ex lines head.bar) head.slot

-- and from the top, where a system is so tall; heights in a staff say 600 for its middle line
abbrev pub page_y : Exercise → List SheetMark → List (List Cell) → ℕ → SheetHead → ℕ
page_y ex marks lines tall head =
    ((place_of ex lines tall (suc head.bar)).top + (staff_of ex marks lines head.staff).y
    + height (staff_of ex marks lines head.staff).middle (degree_of head.pitch)) - 600

-- heads that stand at one place are of one bar, one voice, one slot and one degree, where a system is
-- as tall as its staves, or taller
abbrev pub PlacesTellNotes : Type 0
PlacesTellNotes =
    (ex : Exercise) (marks : List SheetMark) (lines : List (List Cell)) (tall : ℕ)
    (one other : SheetHead)
    → staves_end ex marks lines ex.voices ≤ tall → IsDrawn ex lines one → IsDrawn ex lines other
    → page_x ex lines tall one ≡ page_x ex lines tall other
    → page_y ex marks lines tall one ≡ page_y ex marks lines tall other
    → (one.bar ≡ other.bar) × (one.staff ≡ other.staff) × (one.slot ≡ other.slot)
    × (degree_of one.pitch ≡ degree_of other.pitch)
