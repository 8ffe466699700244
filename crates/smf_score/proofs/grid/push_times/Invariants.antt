use Rattle.std.proofs.Common.{◌≡◌, ◌++◌, replicate}
use Rattle.smf_score.proofs.grid.push_times.Given as goal

-- the cell was appended so often
abbrev pub invariant-loop : goal.invariant-loop
invariant-loop l = l.cells.items ≡ l.fn.cells.items ++ replicate l.counter l.cell
