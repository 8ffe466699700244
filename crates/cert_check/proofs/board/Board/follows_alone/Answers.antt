use Rattle.std.proofs.Common.{◌<◌, List, length, sym, ◌∙◌, subst, arith}
use Rattle.std.proofs.lemmas.Bool.{OnTrue_from}
use Rattle.cert_check.specs.Boards.{FollowsAlone}
use Rattle.cert_check.proofs.HeldLemmas.{follower_is_one}
use Rattle.fux_grid.specs.declared.cell.Cell.{Cell}
use Rattle.fux_grid.specs.Columns.{ColumnFollows}
use Rattle.fux_grid.specs.Menus.{menu_of}
use Rattle.cert_check.proofs.board.Board.follows_alone.Goals as goal

pub returns : goal.returns
returns c =
    let board = c.args.self.now in
    let ex = board.exercise.now in
    let before = c.args.prev.now.items in
    let next = c.as_slice-2.result.now in
    let still = c.requires.board.menus.still c.args.i c.index.result.now c.requires.place
    (sym c.index.ensures ∙ c.if-not-index.false) in
    let within : c.args.k < length (menu_of ex c.args.i) = omega (arith, c.if-k-width.false, c.width.ensures) in
    OnTrue_from c.cells_follow.result (FollowsAlone ex c.args.i before c.args.k)
    (λ h. follower_is_one ex c.args.i before next c.args.k still within (c.as_slice-2.ensures.value ∙ c.column.ensures)
    (subst (λ (cells : List Cell). ColumnFollows cells next) c.as_slice.ensures.value (c.cells_follow.ensures.0 h)))
