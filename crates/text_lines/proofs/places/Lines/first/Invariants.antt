use Rattle.std.proofs.Common.{◌≡◌, ◌≤◌, ◌+◌, length}
use Rattle.std.specs.Str.Lines.{lines}
use Rattle.text_lines.specs.Lines.{numbered}
use Rattle.text_lines.proofs.places.Lines.first.Given as goal

-- the lines before were skipped
abbrev pub invariant-loop-rest : goal.invariant-loop-rest
invariant-loop-rest l = record {
  so_far : numbered l.number (lines l.rest) ≡ numbered l.self.number (lines l.self.rest.now);
  counted : 1 ≤ l.number;
  in_text : l.number + length l.rest ≤ 65537;
}

abbrev pub decreases-loop-rest : goal.decreases-loop-rest
decreases-loop-rest l = length l.rest
