use Rattle.std.proofs.Common.{◌≡◌, ◌++◌, length}
use Rattle.text_lines.specs.Lines.{lines_of}
use Rattle.text_faults.specs.Below.{told_below}
use Rattle.text_faults.specs.Known.{IsPossible, nothing_known}
use Rattle.text_faults.proofs.below.push_below.Given as goal

-- what is told so far, and what is to be told of the lines that are left, are all
abbrev pub invariant-loop-line : goal.invariant-loop-line
invariant-loop-line l = record {
  told : l.faults.items ++ told_below l.first l.known (lines_of l.rest).lines
      ≡ l.fn.faults.items ++ told_below l.first nothing_known (lines_of l.text).lines;
  possible : IsPossible l.known;
}

abbrev pub decreases-loop-line : goal.decreases-loop-line
decreases-loop-line l = length (lines_of l.rest).lines
