-- The lowest voice whose cell may not follow.
use Rattle.std.proofs.Common.{◌≡◌, ℕ, suc, zero, ◌<◌, Bool, true, false, not, List, Some, find, IsTrue, ap, arith}
use Rattle.fux_grid.specs.declared.cell.Cell.{Cell}
use Rattle.fux_grid.specs.Cells.{cell_in, cell_follows}
use Rattle.fux_grid.specs.Faults.{all_voices, lowest_misfit}

find_voice : (p : ℕ → Bool) (v : ℕ) → v < 4 → ((k : ℕ) → k < v → p k ≡ false) → p v ≡ true → find p all_voices ≡ Some v
find_voice p zero few below here = rw here
find_voice p (suc zero) few below here = rw (below 0 (omega arith), here)
find_voice p (suc (suc zero)) few below here = rw (below 0 (omega arith), below 1 (omega arith), here)
find_voice p (suc (suc (suc zero))) few below here =
    rw (below 0 (omega arith), below 1 (omega arith), below 2 (omega arith), here)
find_voice p (suc (suc (suc (suc v)))) few below here = absurd (omega arith)

-- a voice is the lowest misfit where it may not follow and all voices below it may
pub lowest_misfit-some : (before next : List Cell) (v : ℕ) → v < 4
    → ((k : ℕ) → k < v → IsTrue (cell_follows (cell_in before k) (cell_in next k)))
    → cell_follows (cell_in before v) (cell_in next v) ≡ false → lowest_misfit before next ≡ Some v
lowest_misfit-some before next v few below here =
    find_voice (λ k. not (cell_follows (cell_in before k) (cell_in next k))) v few (λ k h. ap not (below k h))
    (ap not here)
