-- Who reads signs by custom hears the alteration of each note.
use Rattle.std.specs.Prelude.{◌≡◌, ℕ, ◌==◌, ℤ, pos, negsuc, List, [], ◌∷◌, ◌++◌, IsTrue, if◌then◌else◌, ⊤}
use Rattle.fux_pitch.specs.declared.pitch.Pitch.{Pitch}
use Rattle.fux_pitch.specs.Pitch.{degree_of, alter_of}
use Rattle.fux_grid.specs.declared.cell.Cell.{Cell}
use Rattle.fux_grid.specs.declared.cell.Cell.TheVariants.{Rest, Hold, Start}
use Rattle.fux_grid.specs.Cells.{cell_follows}
use Rattle.written_notes.specs.declared.signs.Sign.{Sign}
use Rattle.written_notes.specs.declared.signs.Sign.TheVariants.{Plain, Sharp, Flat, Natural}
use Rattle.written_notes.specs.Signs.{sign_behind}

-- the alteration that a reader gives a note with this sign, where its degree has this one so far
abbrev pub read_by : Sign → ℤ → ℤ
read_by Plain said = said
read_by Sharp said = pos 1
read_by Flat said = negsuc 0
read_by Natural said = pos 0

-- the alteration that a degree has behind a cell, which stands behind these cells of its bar: the
-- sign of a note that starts there counts from there on, and what is held changes nothing
abbrev pub said_behind : ℕ → List Cell → ℤ → Cell → ℤ
said_behind degree before said Rest = said
said_behind degree before said (Hold p) = said
said_behind degree before said (Start p) =
    if degree_of p == degree then read_by (sign_behind before (Start p)) said else said

-- the alteration that a degree has behind these cells, which stand behind those
abbrev pub said_by : ℕ → List Cell → ℤ → List Cell → ℤ
said_by degree before said [] = said
said_by degree before said (cell ∷ cells) =
    said_by degree (before ++ cell ∷ []) (said_behind degree before said cell) cells

-- each cell may follow the one before it, the first one this cell
abbrev pub FollowOn : Cell → List Cell → Type 0
FollowOn before [] = ⊤
FollowOn before (cell ∷ cells) = IsTrue (cell_follows before cell) × FollowOn cell cells

-- who reads signs by custom, each to the end of its bar, hears the alteration of each note that
-- starts behind these cells of a bar, the first of which stands behind another bar's last cell
abbrev pub SignsAreHeard : Type 0
SignsAreHeard = (before : Cell) (cells : List Cell) (p : Pitch) → FollowOn before cells
    → read_by (sign_behind cells (Start p)) (said_by (degree_of p) [] (pos 0) cells) ≡ alter_of p
