-- Bar shapes, by species. A shape has a letter for each slot: S where a note starts, H where it is
-- held, R for a rest.
use Rattle.std.specs.Prelude.{ℕ, Bool, ◌==◌, ◌||◌, ◌++◌, List, [], ◌∷◌, if◌then◌else◌, codes, slice_index}
use Rattle.std.specs.List.{list_any, starts_with}
use Rattle.std.specs.Prelude.{nat_eq}
use Rattle.fux_grid.specs.declared.cell.Cell.{Cell}
use Rattle.fux_grid.specs.declared.cell.Cell.TheVariants.{Rest, Hold, Start}

-- the letter of a cell
abbrev pub letter_of : Cell → ℕ
letter_of Rest = 82
letter_of (Hold p) = 72
letter_of (Start p) = 83

-- a note for the whole bar
abbrev pub whole_note : List (List ℕ)
whole_note = codes "SHHHHHHH" ∷ []

-- two notes; the first bar may begin with a rest
abbrev pub second_shapes : ℕ → List (List ℕ)
second_shapes bar = codes "SHHHSHHH" ∷ (if bar == 1 then codes "RRRRSHHH" ∷ [] else [])

-- four notes; the first bar may begin with a rest
abbrev pub third_shapes : ℕ → List (List ℕ)
third_shapes bar = codes "SHSHSHSH" ∷ (if bar == 1 then codes "RRSHSHSH" ∷ [] else [])

-- after a rest in the first bar, notes that are held over the bar line or start on it
abbrev pub fourth_shapes : ℕ → List (List ℕ)
fourth_shapes bar = if bar == 1 then codes "RRRRSHHH" ∷ [] else (codes "HHHHSHHH" ∷ codes "SHHHSHHH" ∷ [])

-- florid bars: those that start on the bar line, then those that begin with a rest or with a held
-- note
abbrev pub florid_starts : List (List ℕ)
florid_starts =
    codes "SHHHSHHH" ∷ codes "SHHHSHSH" ∷ codes "SHHHHHSH" ∷ codes "SHSHSHHH" ∷ codes "SHSHSHSH" ∷ codes "SHSHSHSS"
    ∷ codes "SHSSSHSH" ∷ codes "SHSSSHHH" ∷ []

abbrev pub florid_holds : List (List ℕ)
florid_holds =
    codes "HHHHSHHH" ∷ codes "HHHHSHSH" ∷ codes "HHHHSHSS" ∷ codes "HHSSSHSH" ∷ codes "HHSSSHHH" ∷ codes "HHSHSHSH"
    ∷ codes "HHSHSHHH" ∷ []

abbrev pub fifth_shapes : ℕ → List (List ℕ)
fifth_shapes bar = florid_starts ++ (if bar == 1 then codes "RRRRSHHH" ∷ [] else florid_holds)

-- the shapes of a species in a bar of an exercise of so many bars
abbrev pub shapes_in : ℕ → ℕ → ℕ → List (List ℕ)
shapes_in species bar bars =
    if (species == 1) || (bar == bars) then whole_note
    else (if species == 2 then second_shapes bar
    else (if species == 3 then third_shapes bar
    else (if species == 4 then fourth_shapes bar
    else fifth_shapes bar)))

-- some shape has this letter at the slot
abbrev pub allows : List (List ℕ) → ℕ → ℕ → Bool
allows shapes slot letter = list_any (λ shape. slice_index shape slot == letter) shapes

-- the letters begin some shape
abbrev pub begins_shape : List (List ℕ) → List ℕ → Bool
begins_shape shapes letters = list_any (λ shape. starts_with nat_eq shape letters) shapes
