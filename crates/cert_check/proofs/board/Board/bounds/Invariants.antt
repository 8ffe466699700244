use Rattle.std.proofs.Common.{◌≡◌, length}
use Rattle.cert_check.specs.Boards.{AreBounds}
use Rattle.cert_check.proofs.board.Board.bounds.Given as goal

abbrev pub invariant-loop-number : goal.invariant-loop-number
invariant-loop-number l = record {
  counted : length l.bounds.items ≡ l.number;
  are : AreBounds l.self.exercise.now l.self.sheet.now l.self.stated.now l.bounds.items;
}
