use Rattle.std.proofs.Common.{ℕ, ◌<◌}
use Rattle.cert_law.specs.Entries.{AllowsSum, sum_through}
use Rattle.fux_judge.specs.Links.{given}
use Rattle.cert_check.proofs.board.Board.is_true_before.Given as goal

abbrev pub invariant-loop-k : goal.invariant-loop-k
invariant-loop-k l = (j : ℕ) → j < l.k
    → AllowsSum l.entry (sum_through l.self.exercise.now l.self.sheet.now l.self.stated.now l.i (given l.prev) j)
