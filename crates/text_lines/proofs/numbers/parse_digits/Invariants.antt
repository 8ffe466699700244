use Rattle.std.proofs.Common.{◌≡◌, ◌≤◌, drop}
use Rattle.text_lines.specs.Numbers.{digits_after}
use Rattle.text_lines.proofs.numbers.parse_digits.Given as goal

-- what is left goes on with what was read
abbrev pub invariant-loop-byte : goal.invariant-loop-byte
invariant-loop-byte l = record {
  so_far : digits_after l.number (drop l.byte-index l.text) ≡ digits_after 0 l.text;
  small : l.number ≤ 9999999;
}
