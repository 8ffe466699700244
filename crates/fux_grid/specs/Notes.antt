-- The notes of a voice in a list of columns.
use Rattle.std.specs.Prelude.{◌≡◌, ℕ, ◌+◌, ◌<◌, ◌≤◌, false, List, IsTrue}
use Rattle.fux_grid.specs.declared.cell.Cell.{Cell}
use Rattle.fux_grid.specs.declared.cell.Cell.TheVariants.{Start}
use Rattle.fux_grid.specs.declared.cell.Note.{Note}
use Rattle.fux_grid.specs.declared.cell.Onset.{Onset}
use Rattle.fux_grid.specs.Cells.{is_start, is_hold}
use Rattle.fux_grid.specs.Columns.{cell_at}

-- a voice has this note: it starts with its pitch, is held at all its other columns, and isn't held
-- at the column after them
pub record IsNote (s : List (List Cell)) (v : ℕ) (note : Note) : Type 0 where
  pub starts : cell_at s v note.start ≡ Start note.pitch
  pub long : 1 ≤ note.len
  pub held : (k : ℕ) → note.start < k → k < note.start + note.len → IsTrue (is_hold (cell_at s v k))
  pub ends : is_hold (cell_at s v (note.start + note.len)) ≡ false

-- a note has begun at column i and isn't over
pub record Covers (note : Note) (i : ℕ) : Type 0 where
  pub begun : note.start ≤ i
  pub on : i < note.start + note.len

-- the note of a voice at column i
pub record IsNoteAt (s : List (List Cell)) (v i : ℕ) (note : Note) : Type 0 where
  pub is_note : IsNote s v note
  pub covers : Covers note i

-- the latest note of a voice that is over at column i: it ends at or before the start of the note
-- there
pub record IsPreviousNote (s : List (List Cell)) (v i : ℕ) (note : Note) : Type 0 where
  pub is_note : IsNote s v note
  pub over : note.start + note.len ≤ i
  pub latest : (other : Note) → IsNote s v other → other.start + other.len ≤ i → other.start ≤ note.start

-- the earliest note of a voice that starts after column i
pub record IsNextNote (s : List (List Cell)) (v i : ℕ) (note : Note) : Type 0 where
  pub is_note : IsNote s v note
  pub after : i < note.start
  pub earliest : (other : Note) → IsNote s v other → i < other.start → note.start ≤ other.start

-- no note starts in the columns from one on and before another
abbrev pub NoStart : List (List Cell) → ℕ → ℕ → ℕ → Type 0
NoStart s v from to = (k : ℕ) → from ≤ k → k < to → is_start (cell_at s v k) ≡ false

-- the first start of a note of a voice at column n or later
pub record IsFirstOnset (s : List (List Cell)) (v n : ℕ) (onset : Onset) : Type 0 where
  pub later : n ≤ onset.start
  pub starts : cell_at s v onset.start ≡ Start onset.pitch
  pub first : NoStart s v n onset.start
