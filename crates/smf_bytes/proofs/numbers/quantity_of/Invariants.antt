use Rattle.std.proofs.Common.{◌≡◌, ◌≤◌, ◌<◌, ◌-◌, ◌+◌, ◌^◌, length}
use Rattle.smf_bytes.specs.Numbers.{quantity_in, digits_in}
use Rattle.smf_bytes.proofs.numbers.quantity_of.Given as goal

-- what is read of the rest is what is read of all bytes; so many bytes stand for less than so much
abbrev pub invariant-loop : goal.invariant-loop
invariant-loop l = record {
  goes_on : digits_in (4 - l.counter) l.begin l.high l.end l.rest ≡ quantity_in l.end l.bytes;
  shorter : length l.rest + l.counter ≤ length l.bytes;
  none : l.counter ≤ 0 → l.high ≤ 0;
  one : l.counter ≤ 1 → l.high < 2 ^ 7;
  two : l.counter ≤ 2 → l.high < 2 ^ 14;
  three : l.counter ≤ 3 → l.high < 2 ^ 21;
  four : l.high < 2 ^ 28;
}
