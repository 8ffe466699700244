use Rattle.std.proofs.Common.{ℕ, ◌+◌, ◌^◌, Some}
use Rattle.chain_sums.specs.Chains.{IsLeastOf}
use Rattle.chain_sums.specs.Rows.{AllAtMost, IsAtMost}
use Rattle.chain_sums.proofs.CandidateLemmas.{IsSumTried}
use Rattle.chain_sums.proofs.choices.Choices.least_behind.Given as goal

abbrev pub invariant-loop-candidate : goal.invariant-loop-candidate
invariant-loop-candidate g l = record {
  least : IsLeastOf (IsSumTried (g.L.Links.chains l.links) l.i (Some l.prev.items) l.self.sums.now
      l.self.candidates.now l.candidate-index) l.least;
  bound : (most : ℕ) → AllAtMost most l.self.sums.now → IsAtMost (most + 2 ^ 53) l.least;
}
