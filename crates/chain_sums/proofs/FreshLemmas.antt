-- Columns of cells that aren't held follow every column (`fresh_follows`).
use Rattle.std.proofs.Common.{◌≡◌, ◌⊎◌, inl, inr, ℕ, ◌<◌, ◌≤◌, true, false, List, length, refl, ap}
use Rattle.std.proofs.lemmas.Bool.{cases_lt}
use Rattle.std.proofs.lemmas.List.{get_or_past}
use Rattle.fux_grid.specs.declared.cell.Cell.{Cell}
use Rattle.fux_grid.specs.declared.cell.Cell.TheVariants.{Rest, Hold, Start}
use Rattle.fux_grid.specs.Cells.{cell_in, cell_follows, is_hold}
use Rattle.chain_sums.specs.Fresh.{FollowsAll}

unheld_follows : (b c : Cell) → is_hold c ≡ false → cell_follows b c ≡ true
unheld_follows b Rest h = refl
unheld_follows b (Start p) h = refl
unheld_follows b (Hold p) h = cc

pub fresh_follows : (d : List Cell) → ((v : ℕ) → v < length d → is_hold (cell_in d v) ≡ false) → FollowsAll d
fresh_follows d fresh before v = at (cases_lt v (length d))
  where
    at : (v < length d) ⊎ (length d ≤ v) → cell_follows (cell_in before v) (cell_in d v) ≡ true
    at (inl l) = unheld_follows (cell_in before v) (cell_in d v) (fresh v l)
    at (inr l) = ap (cell_follows (cell_in before v)) (get_or_past d v Rest l)
