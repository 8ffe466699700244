use Rattle.std.proofs.Common.{◌≡◌, ◌*◌, ◌≤◌, map}
use Rattle.std.specs.List.{range_with_len}
use Rattle.sheet_layout.specs.Pages.{staff_of, staves_end}
use Rattle.sheet_layout.proofs.system.staves.Given as goal

-- the staves so far, and where they end
abbrev pub invariant-loop-k : goal.invariant-loop-k
invariant-loop-k l = record {
  made : l.staves.items ≡ map (staff_of l.ex l.marks l.lines) (range_with_len 0 l.k);
  last : l.from ≡ staves_end l.ex l.marks l.lines l.k;
  most : l.from ≤ 200000 * l.k;
}
