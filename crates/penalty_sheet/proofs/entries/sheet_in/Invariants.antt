use Rattle.std.proofs.Common.{◌≡◌, ℕ, ◌<◌, get_or, length}
use Rattle.toml.specs.View.{table_view}
use Rattle.penalty_sheet.specs.Sheets.{weight_by}
use Rattle.penalty_sheet.proofs.entries.sheet_in.Given as goal

-- the weights so far are those of the table, and the last one is the one that is given
abbrev pub invariant-loop-i : goal.invariant-loop-i
invariant-loop-i l =
    (length l.weights ≡ 21)
    × ((k : ℕ) → k < l.i → get_or l.weights k 0 ≡ weight_by (table_view l.table) l.more k)
    × (get_or l.weights 20 0 ≡ l.more)
