-- Signs before notes.
use Rattle.std.specs.Prelude.{ℕ, ◌==◌, pos, negsuc, Bool, false, not, List, [], ◌∷◌, take, if◌then◌else◌}
use Rattle.std.specs.Ordering.{int_eq}
use Rattle.std.specs.Option.{option_map_or}
use Rattle.fux_pitch.specs.declared.pitch.Pitch.{Pitch}
use Rattle.fux_pitch.specs.Pitch.{degree_of, alter_of}
use Rattle.fux_grid.specs.declared.cell.Cell.{Cell}
use Rattle.fux_grid.specs.declared.cell.Cell.TheVariants.{Rest, Hold, Start}
use Rattle.fux_grid.specs.Cells.{cell_in, pitch_of}
use Rattle.written_notes.specs.declared.signs.Sign.{Sign}
use Rattle.written_notes.specs.declared.signs.Sign.TheVariants.{Plain, Sharp, Flat, Natural}

-- whether a degree is altered after a cell, where it was so before: a note on the degree decides
abbrev pub heard_after : ℕ → Bool → Cell → Bool
heard_after degree before cell =
    option_map_or (λ p. if degree_of p == degree then not (int_eq (alter_of p) (pos 0)) else before)
    (pitch_of cell) before

-- whether the last of these cells on a degree is altered, where it was so before
abbrev pub heard_on : ℕ → Bool → List Cell → Bool
heard_on degree before [] = before
heard_on degree before (cell ∷ cells) = heard_on degree (heard_after degree before cell) cells

-- an altered note has its sign, always; an unaltered one has a natural where the last note of its
-- degree in the bar was altered
abbrev pub sign_for : Pitch → Bool → Sign
sign_for p altered =
    if int_eq (alter_of p) (pos 1) then Sharp
    else (if int_eq (alter_of p) (negsuc 0) then Flat
    else (if altered then Natural else Plain))

-- the sign of a cell behind these cells of its bar: a note that is held has none
abbrev pub sign_behind : List Cell → Cell → Sign
sign_behind before Rest = Plain
sign_behind before (Hold p) = Plain
sign_behind before (Start p) = sign_for p (heard_on (degree_of p) false before)

-- the sign at a slot of a bar
abbrev pub sign_at : List Cell → ℕ → Sign
sign_at bar slot = sign_behind (take slot bar) (cell_in bar slot)
