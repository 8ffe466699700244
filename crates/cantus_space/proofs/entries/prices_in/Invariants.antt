use Rattle.std.proofs.Common.{◌≡◌, ℕ, ◌+◌, ◌<◌, get_or, length}
use Rattle.toml.specs.View.{table_view}
use Rattle.cantus_space.specs.PricedSheets.{price_in}
use Rattle.cantus_space.proofs.entries.prices_in.Given as goal

-- the prices so far are those of the table
abbrev pub invariant-loop-i : goal.invariant-loop-i
invariant-loop-i l =
    (length l.weights ≡ 6)
    × ((k : ℕ) → k < l.i → get_or l.weights k 0 ≡ price_in (table_view l.table) (k + 1))
