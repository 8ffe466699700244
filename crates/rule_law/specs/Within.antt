-- The notes of a voice in the first columns of a list.
use Rattle.std.specs.Prelude.{◌≡◌, ℕ, ◌+◌, List, ◌∷◌, drop, take}
use Rattle.fux_grid.specs.declared.cell.Cell.{Cell}
use Rattle.fux_grid.specs.declared.cell.Onset.{Onset}
use Rattle.fux_grid.specs.Cells.{onsets_from}
use Rattle.fux_grid.specs.Columns.{line}

-- the notes that a voice starts from column n on, in the first columns of a list
abbrev pub notes_within : List (List Cell) → ℕ → ℕ → ℕ → List Onset
notes_within s end v n = onsets_from n (line v (drop n (take end s)))

-- a note is the first of them, and the others are those after it
abbrev pub IsFirstWithin : List (List Cell) → ℕ → ℕ → ℕ → Onset → Type 0
IsFirstWithin s end v n onset = notes_within s end v n ≡ onset ∷ notes_within s end v (onset.start + 1)
