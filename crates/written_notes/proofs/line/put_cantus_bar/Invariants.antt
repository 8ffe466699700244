use Rattle.std.proofs.Common.{◌≡◌, ◌++◌, map}
use Rattle.std.specs.List.{range_with_len}
use Rattle.fux_grid.specs.Exercises.{cantus_cell}
use Rattle.written_notes.proofs.line.put_cantus_bar.Given as goal

-- the cells of the slots so far stand behind the line
abbrev pub invariant-loop-slot : goal.invariant-loop-slot
invariant-loop-slot l = l.line.items ≡ l.fn.line.items ++ map (λ slot. cantus_cell slot l.pitch) (range_with_len 0 l.slot)
