use Rattle.std.proofs.Common.{◌≡◌, ◌-◌, ◌*◌}
use Rattle.std.specs.List.{list_all, range_with_len}
use Rattle.fux_grid.specs.Cells.{cell_in}
use Rattle.fux_grid.specs.Exercises.{given_at}
use Rattle.fux_grid.specs.Givens.{fits}
use Rattle.fux_text.specs.Fitting.{line_fits}
use Rattle.fux_text.proofs.fitting.line_fits.Given as goal

-- all cells fit just where those do that are left
abbrev pub invariant-loop-i : goal.invariant-loop-i
invariant-loop-i l =
    list_all (λ k. fits (given_at l.ex k l.v) (cell_in l.cells k)) (range_with_len l.i (8 * l.ex.bars - l.i))
    ≡ line_fits l.ex l.v l.cells
