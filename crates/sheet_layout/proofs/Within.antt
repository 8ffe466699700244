-- Notes stand within the room of their staff.
use Rattle.std.proofs.Common.{◌≡◌, ◌+◌, ◌-◌, ◌≤◌, ℕ, zero, suc, List, [], ◌∷◌, Some, arith, slice_index_or}
use Rattle.std.proofs.lemmas.Option.{none-some}
use Rattle.fux_pitch.specs.declared.pitch.Pitch.{Pitch}
use Rattle.fux_pitch.specs.Pitch.{degree_of}
use Rattle.fux_grid.specs.declared.cell.Cell.{Cell}
use Rattle.fux_grid.specs.declared.cell.Cell.TheVariants.{Rest, Hold, Start}
use Rattle.fux_grid.specs.Cells.{cell_in, pitch_of}
use Rattle.written_notes.specs.declared.clefs.Clef.{Clef}
use Rattle.written_notes.specs.declared.clefs.Clef.TheVariants.{Treble, Bass, Alto}
use Rattle.written_notes.specs.Clefs.{clef_of, middle_of}
use Rattle.sheet_layout.specs.Pages.{NotesStandInTheirRoom, high_with, higher, low_with, lower}

-- a cell leaves a height as it is, or raises it
higher-keeps : (high : ℕ) (c : Cell) → high ≤ higher high c
higher-keeps high Rest = omega arith
higher-keeps high (Hold p) = omega arith
higher-keeps high (Start p) = omega arith

lower-keeps : (low : ℕ) (c : Cell) → lower low c ≤ low
lower-keeps low Rest = omega arith
lower-keeps low (Hold p) = omega arith
lower-keeps low (Start p) = omega arith

high-keeps : (high : ℕ) (cells : List Cell) → high ≤ high_with high cells
high-keeps high [] = omega arith
high-keeps high (c ∷ cells) = omega (arith, higher-keeps high c, high-keeps (higher high c) cells)

low-keeps : (low : ℕ) (cells : List Cell) → low_with low cells ≤ low
low-keeps low [] = omega arith
low-keeps low (c ∷ cells) = omega (arith, lower-keeps low c, low-keeps (lower low c) cells)

-- a cell's own degree
higher-has : (high : ℕ) (c : Cell) (p : Pitch) → pitch_of c ≡ Some p → degree_of p ≤ higher high c
higher-has high c p e = rw e (omega arith)

lower-has : (low : ℕ) (c : Cell) (p : Pitch) → pitch_of c ≡ Some p → lower low c ≤ degree_of p
lower-has low c p e = rw e (omega arith)

-- each cell's degree is no higher than the highest, and no lower than the lowest
high-has : (high : ℕ) (cells : List Cell) (i : ℕ) (p : Pitch) → pitch_of (cell_in cells i) ≡ Some p
    → degree_of p ≤ high_with high cells
high-has high [] i p e = absurd (none-some p e)
high-has high (c ∷ cells) zero p e = omega (arith, higher-has high c p e, high-keeps (higher high c) cells)
high-has high (c ∷ cells) (suc i) p e = high-has (higher high c) cells i p e

low-has : (low : ℕ) (cells : List Cell) (i : ℕ) (p : Pitch) → pitch_of (cell_in cells i) ≡ Some p
    → low_with low cells ≤ degree_of p
low-has low [] i p e = absurd (none-some p e)
low-has low (c ∷ cells) zero p e = omega (arith, lower-has low c p e, low-keeps (lower low c) cells)
low-has low (c ∷ cells) (suc i) p e = low-has (lower low c) cells i p e

-- each middle line has a degree of 4 or more
middle-least : (clef : Clef) → 4 ≤ middle_of clef
middle-least Treble = omega arith
middle-least Bass = omega arith
middle-least Alto = omega arith

pub within : NotesStandInTheirRoom
within ex marks lines from voice i p e =
    let line : List Cell = slice_index_or lines voice [] in
    let middle : ℕ = middle_of (clef_of ex voice) in
    let far = middle-least (clef_of ex voice) in
    let high = high-has (middle + 4) line i p e in
    let low = low-has (middle - 4) line i p e in
    let top = high-keeps (middle + 4) line in
    let foot = low-keeps (middle - 4) line in
    (omega (arith, far, high, top), omega (arith, far, low, foot))
