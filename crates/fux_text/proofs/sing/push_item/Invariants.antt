use Rattle.std.proofs.Common.{◌≡◌, ◌-◌, ◌∷◌, ◌++◌, replicate}
use Rattle.fux_grid.specs.Cells.{held}
use Rattle.fux_text.proofs.sing.push_item.Given as goal

abbrev pub invariant-loop : goal.invariant-loop
invariant-loop l = l.cells.items ≡ l.fn.cells.items ++ l.first ∷ replicate (l.counter - 1) (held l.first)
