-- What a state keeps of the shapes of the newest bar.
use Rattle.std.specs.Prelude.{◌≡◌, ℕ, ◌+◌, ◌-◌, ◌*◌, ◌<◌, ◌==◌, Bool, ◌&&◌, ◌||◌, List, [], ◌∷◌, IsTrue, length, slice_index, nat_eq, bit_and, if◌then◌else◌}
use Rattle.std.specs.List.{list_all, starts_with}
use Rattle.fux_grid.specs.declared.cell.Cell.{Cell}
use Rattle.fux_grid.specs.declared.exercise.Exercise.{Exercise}
use Rattle.fux_grid.specs.Exercises.{IsFree, bar_of, slot_of}
use Rattle.fux_grid.specs.Letters.{letters_of, bar_columns}
use Rattle.fux_grid.specs.Orderly.{voice_shapes}
use Rattle.fux_grid.specs.Shapes.{letter_of}
use Rattle.rule_law.specs.Bars.{begins_bar}
use Rattle.rhythm_cadence.specs.declared.letter_sets.LetterSets.{LetterSets}
use Rattle.rhythm_cadence.specs.declared.part.BarShapes.{BarShapes}

-- the shapes that pass a test, as the bits of a number: bit k is shape k of the list
abbrev pub shape_set : (List ℕ → Bool) → List (List ℕ) → ℕ
shape_set test [] = 0
shape_set test (shape ∷ shapes) = (if test shape then 1 else 0) + 2 * shape_set test shapes

-- the shapes that have a letter at a slot
abbrev pub shapes_with : ℕ → ℕ → List (List ℕ) → ℕ
shapes_with slot letter = shape_set (λ shape. slice_index shape slot == letter)

-- each of these shapes has the letter at a slot
abbrev pub all_have : ℕ → ℕ → List (List ℕ) → Bool
all_have slot letter shapes = list_all (λ shape. slice_index shape slot == letter) shapes

-- they have one letter there, whichever it is
abbrev pub are_alike : ℕ → List (List ℕ) → Bool
are_alike slot shapes = all_have slot 72 shapes || all_have slot 83 shapes || all_have slot 82 shapes

-- three rows of eight sets, for the letters S, H and R: at each slot the shapes that have the
-- letter there
abbrev pub holds_letter : List ℕ → ℕ → List (List ℕ) → Bool
holds_letter sets letter shapes =
    list_all (λ slot. slice_index sets slot == shapes_with slot letter shapes) (0 ∷ 1 ∷ 2 ∷ 3 ∷ 4 ∷ 5 ∷ 6 ∷ 7 ∷ [])

abbrev pub AreSetsOf : List (List ℕ) → LetterSets → Type 0
AreSetsOf shapes sets = IsTrue (holds_letter sets.starts 83 shapes && holds_letter sets.holds 72 shapes
    && holds_letter sets.rests 82 shapes)

-- the bar of the newest column, counted from 1
abbrev pub newest_bar : List (List Cell) → ℕ
newest_bar p = bar_of (length p - 1)

-- where it begins
abbrev pub newest_start : List (List Cell) → ℕ
newest_start p = 8 * (newest_bar p - 1)

-- its columns
abbrev pub newest_columns : List (List Cell) → List (List Cell)
newest_columns p = bar_columns p (newest_bar p)

-- the shapes that the letters of a voice in the newest bar begin
abbrev pub shapes_begun : Exercise → ℕ → List (List Cell) → ℕ
shapes_begun ex v p =
    shape_set (λ shape. starts_with nat_eq shape (letters_of v (newest_columns p))) (voice_shapes ex v (newest_bar p))

-- the part has these for each free voice, where there is a newest column
abbrev pub IsShapesOf : Exercise → List (List Cell) → BarShapes → Type 0
IsShapesOf ex p part = (v : ℕ) → 0 < length p → IsFree ex v → slice_index part.possible v ≡ shapes_begun ex v p

-- after one more cell at column i: the shapes that have its letter there, and that were possible
-- before it in its bar
abbrev pub shapes_after : Exercise → ℕ → ℕ → ℕ → Cell → ℕ
shapes_after ex v i possible c =
    if begins_bar i then shapes_with (slot_of i) (letter_of c) (voice_shapes ex v (bar_of i))
    else bit_and possible (shapes_with (slot_of i) (letter_of c) (voice_shapes ex v (bar_of i)))
