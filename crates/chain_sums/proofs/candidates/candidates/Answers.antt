use Rattle.std.proofs.lemmas.List.Sorted.{IsNonDecreasingBy-from_sort_by_key}
use Rattle.std.proofs.Common.{rules, length}
use Rattle.chain_sums.specs.declared.candidates.Candidate.{Candidate}
use Rattle.chain_sums.proofs.CandidateLemmas.{candidates_sorted}
use Rattle.chain_sums.proofs.candidates.candidates.Goals as goal

pub returns-clause-all : goal.returns-clause-all
returns-clause-all g c =
    let chains = g.L.Links.chains c.args.links.now in
    candidates_sorted chains (g.L.Links.own c.args.links.now c.args.i) c.args.i c.args.row.now
    (length (chains.menu c.args.i)) c.in_ok-found.found.items
    c.in_ok-found.ensures c.sort_unstable_by_key.new.self.items c.sort_unstable_by_key.ensures.permutation

pub returns-clause-order : goal.returns-clause-order
returns-clause-order g c = IsNonDecreasingBy-from_sort_by_key (λ (e : Candidate). e.bound) _
    c.sort_unstable_by_key.ensures.sorted (λ a r q k. search rules)
