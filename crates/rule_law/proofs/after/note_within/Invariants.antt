use Rattle.std.proofs.Common.{◌≡◌, ◌≤◌, ℕ, List}
use Rattle.fux_grid.specs.declared.cell.Cell.{Cell}
use Rattle.rule_law.specs.Within.{notes_within}
use Rattle.rule_law.proofs.after.note_within.Given as goal

abbrev pub invariant-loop-j : goal.invariant-loop-j
invariant-loop-j g l =
    (s : List (List Cell)) (first : ℕ) → g.C.ColumnsAround.show l.around l.ex s first → first ≤ l.n
    → notes_within s l.end l.v l.n ≡ notes_within s l.end l.v l.j
