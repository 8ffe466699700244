use Rattle.std.proofs.Common.{◌≡◌, ap, sym, ◌∙◌, subst, arith, true≢false}
use Rattle.std.specs.List.{Contains}
use Rattle.fux_grid.specs.declared.cell.Cell.{Cell}
use Rattle.fux_grid.specs.Cells.{cell_in}
use Rattle.fux_grid.specs.Menus.{cells_at}
use Rattle.cert_check.proofs.HeadLemmas.{below_more}
use Rattle.cert_check.proofs.head.is_outside_menu.Goals as goal

pub returns-then-not-allows_cell-clause-outside : goal.returns-then-not-allows_cell-clause-outside
returns-then-not-allows_cell-clause-outside c = λ _ menu.
    let v = c.loop-v.v in
    let cell : c.cell_of.result ≡ cell_in c.args.column.now.items v = c.cell_of.ensures
    ∙ ap (λ cells. cell_in cells v) c.as_slice.ensures.value in
    let chosen = subst (λ (d : Cell). Contains (cells_at c.args.ex.now c.args.i v) d) (sym cell)
    (menu.cells v (omega (arith, c.loop-v-test.true))) in
    true≢false (sym (c.allows_cell.ensures.1 chosen) ∙ c.if-not-allows_cell.true)

pub loop-v-preserved : goal.loop-v-preserved
loop-v-preserved c =
    let v = c.loop-v.v in
    let cell : c.cell_of.result ≡ cell_in c.args.column.now.items v = c.cell_of.ensures
    ∙ ap (λ cells. cell_in cells v) c.as_slice.ensures.value in
    below_more (λ w. Contains (cells_at c.args.ex.now c.args.i w) (cell_in c.args.column.now.items w)) v
    c.loop-v.invariant
    (subst (λ (d : Cell). Contains (cells_at c.args.ex.now c.args.i v) d) cell
    (c.allows_cell.ensures.0 c.if-not-allows_cell.false))
