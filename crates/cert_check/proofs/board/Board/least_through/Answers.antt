use Rattle.std.proofs.Common.{subst}
use Rattle.cert_check.specs.Boards.{IsBoundOf}
use Rattle.cert_law.specs.Entries.{number_in}
use Rattle.cert_text.specs.declared.potential.Potential.{Potential}
use Rattle.cert_check.proofs.BoundLemmas.{bound_is}
use Rattle.cert_check.proofs.board.Board.least_through.Goals as goal

pub returns : goal.returns
returns c =
    let board = c.args.self.now in
    bound_is board.exercise.now board.sheet.now board.stated.now c.args.i c.args.k c.column.result.now.items
    c.column_cost-own.result c.bound_of.result c.column.ensures c.column_cost-own.ensures.least
    (subst (λ (e : Potential). IsBoundOf c.column_cost-own.result (number_in e) c.bound_of.result) c.entry_of.ensures
    c.bound_of.ensures)
