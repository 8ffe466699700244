use Rattle.std.proofs.Common.{◌≡◌, ◌++◌, string_bytes, drop}
use Rattle.fux_grid.specs.declared.given.Given.TheVariants.{Blank}
use Rattle.class_marker.specs.Asked.{given_from}
use Rattle.class_marker.proofs.given.put_cells.Given as goal

-- what is written so far, and what is left, are what is to be written
abbrev pub invariant-loop-slot : goal.invariant-loop-slot
invariant-loop-slot l =
    string_bytes l.out ++ given_from l.voices l.line l.before l.slot (drop l.slot l.cells)
    ≡ string_bytes l.fn.out ++ given_from l.voices l.line Blank 0 l.cells
