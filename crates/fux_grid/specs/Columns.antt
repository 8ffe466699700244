-- Lists of columns.
use Rattle.std.specs.Prelude.{ℕ, ◌+◌, List, [], ◌∷◌, Option, Some, None, slice_index_or, reverse, take, drop, map, IsTrue, ⊤}
use Rattle.std.specs.Borrow.{Bor}
use Rattle.arrayvec.specs.ArrayVec.{ArrayVec}
use Rattle.fux_pitch.specs.declared.pitch.Pitch.{Pitch}
use Rattle.fux_grid.specs.declared.cell.Cell.{Cell}
use Rattle.fux_grid.specs.declared.cell.Note.{Note}
use Rattle.fux_grid.specs.declared.cell.Onset.{Onset}
use Rattle.fux_grid.specs.Cells.{pitch_of, cell_in, cell_follows, notes_from, onsets_from, before_note, first_of}

-- the columns of a score, from the oldest to the newest
abbrev pub Columns : Type 0
Columns = List (List Cell)

-- each cell may follow the one of its voice; an empty column stands before the first one
abbrev pub ColumnFollows : List Cell → List Cell → Type 0
ColumnFollows before next = (v : ℕ) → IsTrue (cell_follows (cell_in before v) (cell_in next v))

-- the cells of a column that may be lacking
abbrev pub cells_before : Option (Bor (ArrayVec Cell)) → List Cell
cells_before None = []
cells_before (Some col) = col.now.items

-- the newest column, the empty one where there is none
abbrev pub newest_column : List (List Cell) → List Cell
newest_column [] = []
newest_column (col ∷ cols) = col

-- each column of a history, which goes from the newest to the oldest, follows the one before it
abbrev pub HistoryFollows : List (List Cell) → Type 0
HistoryFollows [] = ⊤
HistoryFollows (col ∷ cols) = ColumnFollows (newest_column cols) col × HistoryFollows cols

-- a column follows the last one of a list
abbrev pub FollowsLast : List (List Cell) → List Cell → Type 0
FollowsLast s col = ColumnFollows (newest_column (reverse s)) col

-- the first j columns of a list, from the newest to the oldest
unfoldable pub earlier : List (List Cell) → ℕ → List (List Cell)
earlier s j = reverse (take j s)

-- the cells of a voice
abbrev pub line : ℕ → List (List Cell) → List Cell
line v = map (λ col. cell_in col v)

-- the cell of a voice at a column of the list, a rest where there is none
abbrev pub cell_at : List (List Cell) → ℕ → ℕ → Cell
cell_at s v i = cell_in (slice_index_or s i []) v

-- the pitch that a voice sounds at a column of the list
abbrev pub sound_at : List (List Cell) → ℕ → ℕ → Option Pitch
sound_at s v i = pitch_of (cell_at s v i)

-- the latest note of a voice before the note at column i, or before i where it rests there
abbrev pub note_before : List (List Cell) → ℕ → ℕ → Option Note
note_before s v i = first_of (notes_from 0 (before_note (line v (earlier s (i + 1)))))

-- the notes of a voice that start in the first n columns, from the newest to the oldest
abbrev pub notes_up_to : List (List Cell) → ℕ → ℕ → List Note
notes_up_to s v n = notes_from 0 (line v (earlier s n))

-- where notes of a voice start in the columns from n on
abbrev pub onsets_since : List (List Cell) → ℕ → ℕ → List Onset
onsets_since s v n = onsets_from n (line v (drop n s))
