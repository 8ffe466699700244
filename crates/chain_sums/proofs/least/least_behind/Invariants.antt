use Rattle.std.proofs.Common.{◌+◌, ◌^◌, ℕ}
use Rattle.chain_sums.specs.Chains.{IsLeastOf, given}
use Rattle.chain_sums.specs.Rows.{AllAtMost, IsAtMost, IsSumWithin}
use Rattle.chain_sums.proofs.least.least_behind.Given as goal

abbrev pub invariant-loop-k : goal.invariant-loop-k
invariant-loop-k g l = record {
  least : IsLeastOf (IsSumWithin (g.L.Links.chains l.links) l.i (given l.prev) l.row l.k) l.least;
  bound : (most : ℕ) → AllAtMost most l.row → IsAtMost (most + 2 ^ 53) l.least;
}
