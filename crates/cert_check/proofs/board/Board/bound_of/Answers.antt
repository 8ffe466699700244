use Rattle.std.proofs.Common.{◌∙◌, arith}
use Rattle.cert_check.proofs.PlaceLemmas.{few_numbers}
use Rattle.cert_check.proofs.board.Board.bound_of.Goals as goal

pub overflow_add-number : goal.overflow_add-number
overflow_add-number c =
    let board = c.args.self.now in
    let few = few_numbers board.exercise.now board.menus.now c.requires.board.valid c.requires.board.menus c.args.i c.args.k
    c.requires.place c.requires.within in
    let is = c.index.ensures ∙ c.requires.board.menus.before c.args.i c.index.result.now c.requires.place in
    omega (arith, few, is)
