use Rattle.std.proofs.Common.{◌≡◌, ◌+◌, ◌<◌, suc, refl, arith}
use Rattle.cert_law.specs.Entries.{menu_column}
use Rattle.fux_grid.specs.Exercises.{columns_in}
use Rattle.cert_check.proofs.TruthLemmas.{true_behind}
use Rattle.cert_check.proofs.board.Board.is_true_at.Goals as goal

pub returns-then-i-len : goal.returns-then-i-len
returns-then-i-len c =
    let board = c.args.self.now in
    let next : c.args.i + 1 ≡ suc c.args.i = omega arith in
    let later : suc c.args.i < columns_in board.exercise.now = omega (
      arith,
      c.if-i-len.true,
      c.len.ensures,
      c.requires.board.menus.whole,
    ) in
    true_behind board.exercise.now board.sheet.now board.stated.now c.args.i c.args.k (c.args.i + 1)
    (menu_column board.exercise.now c.args.i c.args.k) c.entry_of-entry.result c.is_true_behind.result next later refl
    c.entry_of-entry.ensures c.is_true_behind.ensures
