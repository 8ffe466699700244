use Rattle.std.proofs.Common.{◌≡◌, ◌+◌, drop}
use Rattle.written_notes.specs.Runs.{held_on}
use Rattle.written_notes.proofs.runs.held.Given as goal

-- the cells so far go on, and those of the rest that do come on top
abbrev pub invariant-loop-count : goal.invariant-loop-count
invariant-loop-count l = l.count + held_on l.first (drop l.count l.cells) ≡ held_on l.first l.cells
