use Rattle.std.proofs.Common.{◌≡◌, ◌<◌, ◌≤◌, ℕ, None, length}
use Rattle.std.specs.Prelude.{vec_capacity, slice_index_or}
use Rattle.price_check.specs.Woven.{FitsFor, IsWebFor}
use Rattle.price_check.proofs.woven.webs_of.Given as goal

abbrev pub invariant-loop-number : goal.invariant-loop-number
invariant-loop-number l = record {
  webs : (n : ℕ) → n < l.number → IsWebFor l.lists n (slice_index_or l.webs.items n None);
  fits : (n : ℕ) → n < l.number → FitsFor l.lists n;
  count : length l.webs.items ≡ l.number;
  room : 256 ≤ vec_capacity l.webs;
}
