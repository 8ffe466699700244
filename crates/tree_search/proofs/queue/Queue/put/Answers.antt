use Rattle.std.proofs.Common.{◌≤◌}
use Rattle.std.proofs.lemmas.List.Sorted.{All-permutation, IsPermutation-cons}
use Rattle.tree_search.specs.Entries.{Entry, entry_of}
use Rattle.tree_search.specs.Queues.{entry_list}
use Rattle.tree_search.proofs.Queues.{entries-pushed, first-pushed}
use Rattle.tree_search.proofs.queue.Queue.put.Goals as goal

pub returns-then-not-comes_first-clause-put : goal.returns-then-not-comes_first-clause-put
returns-then-not-comes_first-clause-put c =
    entries-pushed (entry_list c.args.self.now.first) _ _ _ c.push.ensures.pushed

pub returns-then-not-comes_first-clause-queue : goal.returns-then-not-comes_first-clause-queue
returns-then-not-comes_first-clause-queue c = (
  c.push.ensures.heap,
  first-pushed c.args.self.now.first _ _ _ c.push.ensures.pushed c.if-not-comes_first.ensures.later
      c.requires.queue.1,
)

pub returns-in-Some-clause-put : goal.returns-in-Some-clause-put
returns-in-Some-clause-put c =
    rw c.in-Some.is (IsPermutation-cons (entry_of c.args.floor c.args.entry) _ _ c.push-in-Some.ensures.pushed)

pub returns-in-Some-clause-queue : goal.returns-in-Some-clause-queue
returns-in-Some-clause-queue c = (
  c.push-in-Some.ensures.heap,
  All-permutation (λ (other : Entry). c.args.floor ≤ other.0.0) _ _ c.push-in-Some.ensures.pushed
      (rw c.in-Some.is at c.if-not-comes_first.ensures.first),
)
