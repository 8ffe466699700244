-- What the voices of placed notes do at each slot.
use Rattle.std.specs.Prelude.{ℕ, ◌-◌, ◌*◌, List, [], ◌∷◌, ◌++◌, map, replicate}
use Rattle.fux_grid.specs.declared.cell.Cell.{Cell}
use Rattle.fux_grid.specs.declared.cell.Cell.TheVariants.{Rest}
use Rattle.smf_score.specs.declared.placed.Placed.{Placed}
use Rattle.voice_lines.specs.Lines.{note_cells}

-- the cells of a voice from one slot to another: it rests up to its first note, which sounds to its
-- end, and so on
abbrev pub cells_of : ℕ → ℕ → List Placed → List Cell
cells_of at over [] = replicate (over - at) Rest
cells_of at over (note ∷ notes) =
    replicate (note.start - at) Rest
    ++ (note_cells note.pitch (note.end - note.start) ++ cells_of note.end over notes)

-- the cells of each voice in so many bars
abbrev pub lines_of : ℕ → List (List Placed) → List (List Cell)
lines_of bars voices = map (cells_of 0 (8 * bars)) voices
