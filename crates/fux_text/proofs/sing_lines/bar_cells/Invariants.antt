use Rattle.std.proofs.Common.{◌≡◌, ◌-◌, ◌*◌, map, take, drop}
use Rattle.fux_grid.specs.Columns.{line}
use Rattle.fux_text.specs.GivenItems.{given_of}
use Rattle.fux_text.proofs.sing_lines.bar_cells.Given as goal

abbrev pub invariant-loop-slot : goal.invariant-loop-slot
invariant-loop-slot l = l.cells.items ≡ map given_of (line l.v (take l.slot (drop (8 * (l.bar - 1)) l.score.columns)))
