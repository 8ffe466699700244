-- Cells, and the notes of one voice. A line is the cells of a voice from the newest to the oldest.
use Rattle.std.specs.Prelude.{ℕ, suc, Bool, true, false, List, [], ◌∷◌, Option, Some, None, slice_index_or, length}
use Rattle.fux_pitch.specs.declared.pitch.Pitch.{Pitch}
use Rattle.fux_pitch.specs.Pitch.{same_pitch}
use Rattle.fux_grid.specs.declared.cell.Cell.{Cell}
use Rattle.fux_grid.specs.declared.cell.Cell.TheVariants.{Rest, Hold, Start}
use Rattle.fux_grid.specs.declared.cell.Note.{Note}
use Rattle.fux_grid.specs.declared.cell.Onset.{Onset}

-- the pitch that sounds in a cell
abbrev pub pitch_of : Cell → Option Pitch
pitch_of Rest = None
pitch_of (Hold p) = Some p
pitch_of (Start p) = Some p

-- a note starts in the cell
abbrev pub is_start : Cell → Bool
is_start Rest = false
is_start (Hold p) = false
is_start (Start p) = true

-- a note that started before goes on in the cell
abbrev pub is_hold : Cell → Bool
is_hold Rest = false
is_hold (Hold p) = true
is_hold (Start p) = false

-- the cell that goes on with what a cell sounds
abbrev pub held : Cell → Cell
held Rest = Rest
held (Hold p) = Hold p
held (Start p) = Hold p

-- the cell of a voice in a column, a rest where the column has none
abbrev pub cell_in : List Cell → ℕ → Cell
cell_in col v = slice_index_or col v Rest

-- a cell may follow another of its voice
abbrev pub cell_follows : Cell → Cell → Bool
cell_follows before Rest = true
cell_follows before (Start p) = true
cell_follows Rest (Hold p) = false
cell_follows (Hold q) (Hold p) = same_pitch q p
cell_follows (Start q) (Hold p) = same_pitch q p

-- two cells are equal, in kind and in pitch
abbrev pub same_cell : Cell → Cell → Bool
same_cell Rest Rest = true
same_cell Rest (Hold q) = false
same_cell Rest (Start q) = false
same_cell (Hold p) Rest = false
same_cell (Hold p) (Hold q) = same_pitch p q
same_cell (Hold p) (Start q) = false
same_cell (Start p) Rest = false
same_cell (Start p) (Hold q) = false
same_cell (Start p) (Start q) = same_pitch p q

-- the newest cell of a line, a rest where there is none
abbrev pub newest : List Cell → Cell
newest [] = Rest
newest (c ∷ cs) = c

-- the line without the note that its newest cell belongs to, or without that rest
abbrev pub before_note : List Cell → List Cell
before_note [] = []
before_note (Rest ∷ cs) = cs
before_note (Hold p ∷ cs) = before_note cs
before_note (Start p ∷ cs) = cs

-- the notes of a line from the newest to the oldest, where so many holds of the newest one came
-- after the line
abbrev pub notes_from : ℕ → List Cell → List Note
notes_from held [] = []
notes_from held (Rest ∷ cs) = notes_from 0 cs
notes_from held (Hold p ∷ cs) = notes_from (suc held) cs
notes_from held (Start p ∷ cs) = record { start = length cs; len = suc held; pitch = p } ∷ notes_from 0 cs

-- where notes start in a line that goes from the oldest cell to the newest, where so many columns
-- stand before it
abbrev pub onsets_from : ℕ → List Cell → List Onset
onsets_from at [] = []
onsets_from at (Rest ∷ cs) = onsets_from (suc at) cs
onsets_from at (Hold p ∷ cs) = onsets_from (suc at) cs
onsets_from at (Start p ∷ cs) = record { start = at; pitch = p } ∷ onsets_from (suc at) cs

-- the first of a list
abbrev pub first_of : {X : Type 0} → List X → Option X
first_of [] = None
first_of (x ∷ xs) = Some x
