use Rattle.std.proofs.Common.{◌≡◌, suc, map}
use Rattle.std.specs.List.{range_with_len}
use Rattle.written_notes.specs.Lines.{given_cell}
use Rattle.written_notes.proofs.line.given_line.Given as goal

-- the cells so far, and the last of them
abbrev pub invariant-loop-i : goal.invariant-loop-i
invariant-loop-i l = record {
  made : l.line.items ≡ map (λ i. given_cell l.ex l.v (suc i)) (range_with_len 0 l.i);
  last : l.cell ≡ given_cell l.ex l.v l.i;
}
