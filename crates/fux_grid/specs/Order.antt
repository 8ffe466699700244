-- Reading order, of cells, columns and settings.
use Rattle.std.specs.Prelude.{◌≡◌, ◌⊎◌, List, [], ◌∷◌}
use Rattle.std.specs.Cmp.Lexicographic.{slice_cmp}
use Rattle.std.specs.Ordering.{ordering_then, nat_cmp, int_cmp}
use Rattle.std.specs.declared.cmp.Ordering.{Ordering}
use Rattle.std.specs.declared.cmp.Ordering.TheVariants.{Less, Equal, Greater}
use Rattle.fux_pitch.specs.declared.pitch.Pitch.{Pitch}
use Rattle.fux_pitch.specs.Pitch.{key_of, degree_of}
use Rattle.fux_grid.specs.declared.cell.Cell.{Cell}
use Rattle.fux_grid.specs.declared.cell.Cell.TheVariants.{Rest, Hold, Start}

-- pitches go by key, then by degree
abbrev pub pitch_order : Pitch → Pitch → Ordering
pitch_order p q = ordering_then (int_cmp (key_of p) (key_of q)) (nat_cmp (degree_of p) (degree_of q))

-- a rest comes before a hold, and a hold before a start; two of a kind go by their pitches
abbrev pub cell_order : Cell → Cell → Ordering
cell_order Rest Rest = Equal
cell_order Rest (Hold q) = Less
cell_order Rest (Start q) = Less
cell_order (Hold p) Rest = Greater
cell_order (Hold p) (Hold q) = pitch_order p q
cell_order (Hold p) (Start q) = Less
cell_order (Start p) Rest = Greater
cell_order (Start p) (Hold q) = Greater
cell_order (Start p) (Start q) = pitch_order p q

-- columns of equal length go by the lowest voice in which they differ
abbrev pub column_order : List Cell → List Cell → Ordering
column_order = slice_cmp cell_order

-- of two lists that differ at a column which both have, the one with the earlier column at the
-- first such difference
abbrev pub IsEarlier : List (List Cell) → List (List Cell) → Type 0
IsEarlier s [] = ⊥
IsEarlier [] (d ∷ t) = ⊥
IsEarlier (c ∷ s) (d ∷ t) = (column_order c d ≡ Less) ⊎ ((c ≡ d) × IsEarlier s t)
