-- The items of a `given` line, as they are written: notes, blanks, rests, and what goes on from the
-- bar before, with their lengths.
use Rattle.std.specs.Prelude.{ℕ, List, ◌∷◌, ◌++◌, Bool, true, false, codes}
use Rattle.std.specs.Fmt.{decimal}
use Rattle.fux_pitch.specs.Names.{name_of}
use Rattle.fux_grid.specs.declared.cell.Cell.{Cell}
use Rattle.fux_grid.specs.declared.cell.Cell.TheVariants as cell
use Rattle.fux_grid.specs.declared.given.Given.{Given}
use Rattle.fux_grid.specs.declared.given.Given.TheVariants.{Blank, Rest, Tied, Hold, Start}
use Rattle.fux_text.specs.Items.{items_by}

-- the second cell goes on with what the first one gives: with its blank, its rest, its tie or its
-- note
abbrev pub given_goes_on : Given → Given → Bool
given_goes_on Blank Blank = true
given_goes_on Blank Rest = false
given_goes_on Blank Tied = false
given_goes_on Blank (Hold p) = false
given_goes_on Blank (Start p) = false
given_goes_on Rest Blank = false
given_goes_on Rest Rest = true
given_goes_on Rest Tied = false
given_goes_on Rest (Hold p) = false
given_goes_on Rest (Start p) = false
given_goes_on Tied Blank = false
given_goes_on Tied Rest = false
given_goes_on Tied Tied = true
given_goes_on Tied (Hold p) = false
given_goes_on Tied (Start p) = false
given_goes_on (Hold q) Blank = false
given_goes_on (Hold q) Rest = false
given_goes_on (Hold q) Tied = false
given_goes_on (Hold q) (Hold p) = true
given_goes_on (Hold q) (Start p) = false
given_goes_on (Start q) Blank = false
given_goes_on (Start q) Rest = false
given_goes_on (Start q) Tied = false
given_goes_on (Start q) (Hold p) = true
given_goes_on (Start q) (Start p) = false

-- the items of a bar that is given: the first cell of each, and how many cells it has
abbrev pub given_items : List Given → List (Given × ℕ)
given_items cells = items_by given_goes_on cells

-- what an item is called: a note by its pitch, `_` goes on with what sounded, `r` is a rest, and
-- `?` is left blank
abbrev pub given_name : Given → List ℕ
given_name Blank = codes "?"
given_name Rest = codes "r"
given_name Tied = codes "_"
given_name (Hold p) = codes "_"
given_name (Start p) = name_of p

-- the word of an item: its name, a colon and its length
abbrev pub given_word : Given × ℕ → List ℕ
given_word item = given_name item.0 ++ 58 ∷ decimal item.1

-- a cell, as it is given
abbrev pub given_of : Cell → Given
given_of cell.Rest = Rest
given_of (cell.Hold p) = Hold p
given_of (cell.Start p) = Start p
