use Rattle.std.proofs.Common.{◌≡◌, ◌+◌}
use Rattle.cert_law.specs.Entries.{columns_before}
use Rattle.cert_check.proofs.board.Board.place_of.Given as goal

abbrev pub invariant-loop-i : goal.invariant-loop-i
invariant-loop-i l = l.number ≡ columns_before l.self.exercise.now l.i + l.rest
