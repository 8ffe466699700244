-- The notes of a voice that start after a column.
use Rattle.std.specs.Prelude.{ℕ, ◌+◌, List, [], ◌∷◌, Option, Some, None}
use Rattle.fux_pitch.specs.declared.pitch.Pitch.{Pitch}
use Rattle.fux_grid.specs.declared.cell.Cell.{Cell}
use Rattle.fux_grid.specs.declared.cell.Onset.{Onset}
use Rattle.fux_grid.specs.Cells.{onsets_from, first_of}
use Rattle.fux_grid.specs.Columns.{line}

-- the starts of a voice's notes in the columns after column i, the earliest first
abbrev pub onsets_after : ℕ → ℕ → List (List Cell) → List Onset
onsets_after i v ahead = onsets_from (i + 1) (line v ahead)

-- the second of a list
abbrev pub second_of : {X : Type 0} → List X → Option X
second_of [] = None
second_of (x ∷ xs) = first_of xs

-- the next note that a voice starts after column i, and the one after that
abbrev pub next_onset : ℕ → ℕ → List (List Cell) → Option Onset
next_onset i v ahead = first_of (onsets_after i v ahead)

abbrev pub second_next_onset : ℕ → ℕ → List (List Cell) → Option Onset
second_next_onset i v ahead = second_of (onsets_after i v ahead)

-- the pitch of a note, where there is one
abbrev pub onset_pitch : Option Onset → Option Pitch
onset_pitch None = None
onset_pitch (Some onset) = Some onset.pitch
