use Rattle.std.proofs.Common.{refl}
use Rattle.cert_law.specs.Entries.{sum_through}
use Rattle.fux_judge.specs.Links.{given}
use Rattle.cert_check.proofs.board.Board.allows_through.Goals as goal

pub returns-then-allows_from : goal.returns-then-allows_from
returns-then-allows_from c =
    let board = c.args.self.now in
    let sum = sum_through board.exercise.now board.sheet.now board.stated.now c.args.i (given c.args.prev) c.args.k in
    (λ is. c.if-allows_from.ensures sum (c.bound_of.ensures (given c.args.prev)), λ allows. refl)
