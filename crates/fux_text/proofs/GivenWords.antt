-- The items of cells are written as if the cells were given (`words-as_given`).
use Rattle.std.proofs.Common.{◌≡◌, ℕ, List, [], ◌∷◌, map, refl, ap, ◌∙◌}
use Rattle.fux_grid.specs.declared.cell.Cell.{Cell}
use Rattle.fux_grid.specs.declared.cell.Cell.TheVariants.{Rest, Hold, Start}
use Rattle.fux_text.specs.GivenItems.{given_goes_on, given_items, given_of, given_word}
use Rattle.fux_text.specs.Items.{goes_on, item_word, items_of_cells}
use Rattle.fux_text.proofs.ItemLemmas.{items-mapped}

goes-as_given : (c d : Cell) → given_goes_on (given_of c) (given_of d) ≡ goes_on c d
goes-as_given Rest Rest = refl
goes-as_given Rest (Hold p) = refl
goes-as_given Rest (Start p) = refl
goes-as_given (Hold q) Rest = refl
goes-as_given (Hold q) (Hold p) = refl
goes-as_given (Hold q) (Start p) = refl
goes-as_given (Start q) Rest = refl
goes-as_given (Start q) (Hold p) = refl
goes-as_given (Start q) (Start p) = refl

word-as_given : (c : Cell) (n : ℕ) → given_word (given_of c, n) ≡ item_word (c, n)
word-as_given Rest n = refl
word-as_given (Hold p) n = refl
word-as_given (Start p) n = refl

each-as_given : (items : List (Cell × ℕ)) → map given_word (map (λ item. (given_of item.0, item.1)) items)
    ≡ map item_word items
each-as_given [] = refl
each-as_given ((c, n) ∷ items) =
    ap (λ w. w ∷ map given_word (map (λ item. (given_of item.0, item.1)) items)) (word-as_given c n)
    ∙ ap (λ ws. item_word (c, n) ∷ ws) (each-as_given items)

pub words-as_given : (cells : List Cell) → map given_word (given_items (map given_of cells))
    ≡ map item_word (items_of_cells cells)
words-as_given cells =
    ap (map given_word) (items-mapped goes_on given_goes_on given_of goes-as_given cells)
    ∙ each-as_given (items_of_cells cells)
