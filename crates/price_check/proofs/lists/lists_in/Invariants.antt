use Rattle.std.specs.Prelude.{◌≡◌, ◌-◌, ◌≤◌, map}
use Rattle.price_check.specs.Lists.{behind_lines, lines_in, lists_in}
use Rattle.price_check.specs.PriceLines.{line_of}
use Rattle.price_check.proofs.lists.lists_in.Given as goal

-- what is read of the rest, behind the lines so far, is what is read of all bytes
abbrev pub invariant-loop-turn : goal.invariant-loop-turn
invariant-loop-turn l = record {
  few : l.before.lists ≤ 8;
  read : behind_lines (map line_of l.lines.items) (lines_in (262144 - l.turn) l.ex l.before l.left)
      ≡ lists_in l.ex l.bytes;
}
