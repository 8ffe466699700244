use Rattle.std.proofs.Common.{Option, ℕ, List, sym, ap, ◌∙◌, true≢false}
use Rattle.cert_law.specs.Entries.{menu_column, number_in}
use Rattle.cert_text.specs.declared.potential.Potential.{Potential}
use Rattle.chain_sums.specs.Chains.{plus}
use Rattle.fux_grid.specs.declared.cell.Cell.{Cell}
use Rattle.fux_judge.specs.Links.{given, link_of}
use Rattle.cert_check.proofs.SumLemmas.{closed_sum, open_sum}
use Rattle.cert_check.proofs.board.Board.sum_through.Goals as goal

pub returns-then-not-cells_follow : goal.returns-then-not-cells_follow
returns-then-not-cells_follow c =
    let board = c.args.self.now in
    sym (closed_sum board.exercise.now board.sheet.now board.stated.now c.args.i c.args.k c.args.prev
    c.cells_of.result.now c.as_slice.result.now c.cells_of.ensures
    (c.as_slice.ensures.value ∙ c.column-next.ensures)
    (λ follows. true≢false (sym (c.cells_follow.ensures.1 follows) ∙ c.if-not-cells_follow.true)))

pub returns : goal.returns
returns c =
    let board = c.args.self.now in
    let of = link_of board.exercise.now board.sheet.now c.args.i (given c.args.prev) in
    c.sum_with.ensures
    ∙ ap (λ (o : Option ℕ). plus o (number_in c.entry_of.result)) c.in_ok-cost.ensures.value
    ∙ ap (λ (d : List Cell). plus (of d) (number_in c.entry_of.result)) c.column-next.ensures
    ∙ ap (λ (e : Potential). plus (of (menu_column board.exercise.now c.args.i c.args.k)) (number_in e)) c.entry_of.ensures
    ∙ sym (open_sum board.exercise.now board.sheet.now board.stated.now c.args.i c.args.k c.args.prev
    c.cells_of.result.now c.as_slice.result.now c.cells_of.ensures
    (c.as_slice.ensures.value ∙ c.column-next.ensures)
    (c.cells_follow.ensures.0 c.if-not-cells_follow.false))
