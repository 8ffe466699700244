-- The items of a `sing` line: notes, holds over a bar line, and runs of rests, with their lengths.
use Rattle.std.specs.Prelude.{ℕ, ◌+◌, List, [], ◌∷◌, ◌++◌, Bool, true, false, codes, if◌then◌else◌}
use Rattle.std.specs.Fmt.{decimal}
use Rattle.fux_pitch.specs.Names.{name_of}
use Rattle.fux_grid.specs.declared.cell.Cell.{Cell}
use Rattle.fux_grid.specs.declared.cell.Cell.TheVariants.{Rest, Hold, Start}

-- the second cell goes on with what the first one does: with its note, or with its rest
abbrev pub goes_on : Cell → Cell → Bool
goes_on Rest Rest = true
goes_on Rest (Hold p) = false
goes_on Rest (Start p) = false
goes_on (Hold q) Rest = false
goes_on (Hold q) (Hold p) = true
goes_on (Hold q) (Start p) = false
goes_on (Start q) Rest = false
goes_on (Start q) (Hold p) = true
goes_on (Start q) (Start p) = false

-- items after so many cells that begin with this one: they are one item with the first of those
-- where that goes on
abbrev pub with_run_by : {C : Type 0} → (C → C → Bool) → C → ℕ → List (C × ℕ) → List (C × ℕ)
with_run_by goes c n [] = (c, n) ∷ []
with_run_by goes c n (item ∷ items) = if goes c item.0 then (c, n + item.1) ∷ items else (c, n) ∷ item ∷ items

-- the items of cells: the first cell of each, and how many cells it has
abbrev pub items_by : {C : Type 0} → (C → C → Bool) → List C → List (C × ℕ)
items_by goes [] = []
items_by goes (c ∷ cs) = with_run_by goes c 1 (items_by goes cs)

abbrev pub with_run : Cell → ℕ → List (Cell × ℕ) → List (Cell × ℕ)
with_run c n items = with_run_by goes_on c n items

-- the items of a bar's cells
abbrev pub items_of_cells : List Cell → List (Cell × ℕ)
items_of_cells cells = items_by goes_on cells

-- what an item is called: a note by its pitch, `_` goes on with what sounded, and `r` is a rest
abbrev pub item_name : Cell → List ℕ
item_name Rest = codes "r"
item_name (Hold p) = codes "_"
item_name (Start p) = name_of p

-- the word of an item: its name, a colon and its length
abbrev pub item_word : Cell × ℕ → List ℕ
item_word item = item_name item.0 ++ 58 ∷ decimal item.1
