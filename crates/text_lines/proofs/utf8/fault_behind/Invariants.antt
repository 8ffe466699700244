use Rattle.std.proofs.Common.{◌≡◌, ◌≤◌, ◌+◌, drop}
use Rattle.text_lines.specs.Utf8.{place_behind}
use Rattle.text_lines.proofs.utf8.fault_behind.Given as goal

-- what is left goes on from this place
abbrev pub invariant-loop-byte : goal.invariant-loop-byte
invariant-loop-byte g l = record {
  so_far : place_behind l.line l.column (drop l.byte-index l.before) ≡ place_behind 1 1 l.before;
  few_lines : l.line ≤ 1 + l.byte-index;
  few_columns : l.column ≤ 1 + l.byte-index;
}
