-- Bars of items, as they are written.
use Rattle.std.proofs.Common.{◌≡◌, ◌≤◌, ℕ, false, List, drop}
use Rattle.std.specs.List.{AllByRecursion, flat_map, sum_by}
use Rattle.fux_grid.specs.declared.cell.Cell.{Cell}
use Rattle.fux_grid.specs.Cells.{is_hold}
use Rattle.fux_text.specs.Sing.{item_cells}

-- the items of a bar: their lengths sum to 8, and none but the first goes on with what sounded
pub record IsBar (items : List (Cell × ℕ)) : Type 0 where
  pub whole : sum_by (λ item. item.1) items ≡ 8
  pub some : AllByRecursion (λ item. 1 ≤ item.1) items
  pub ties : AllByRecursion (λ item. is_hold item.0 ≡ false) (drop 1 items)

-- the cells of items, and of bars of items
abbrev pub cells_of : List (Cell × ℕ) → List Cell
cells_of items = flat_map (λ item. item_cells item.0 item.1) items

abbrev pub cells_of_bars : List (List (Cell × ℕ)) → List Cell
cells_of_bars bars = flat_map cells_of bars
