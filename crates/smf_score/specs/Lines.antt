-- The notes of a voice, from the oldest to the newest.
use Rattle.std.specs.Prelude.{ℕ, suc, List, [], ◌∷◌}
use Rattle.fux_grid.specs.declared.cell.Cell.{Cell}
use Rattle.fux_grid.specs.declared.cell.Cell.TheVariants.{Rest, Hold, Start}
use Rattle.fux_grid.specs.declared.cell.Note.{Note}

-- how many holds stand at the front of a line
abbrev pub holds_ahead : List Cell → ℕ
holds_ahead [] = 0
holds_ahead (Rest ∷ cells) = 0
holds_ahead (Start p ∷ cells) = 0
holds_ahead (Hold p ∷ cells) = suc (holds_ahead cells)

-- the notes of a line from its first cell on, which stands at a column
abbrev pub notes_of : ℕ → List Cell → List Note
notes_of at [] = []
notes_of at (Rest ∷ cells) = notes_of (suc at) cells
notes_of at (Hold p ∷ cells) = notes_of (suc at) cells
notes_of at (Start p ∷ cells) =
    record { start = at; len = suc (holds_ahead cells); pitch = p } ∷ notes_of (suc at) cells
