use Rattle.std.proofs.Common.{List, length, ap, arith}
use Rattle.std.proofs.lemmas.List.Sorted.{length_permutation}
use Rattle.tree_search.specs.Entries.{Entry}
use Rattle.tree_search.specs.declared.links.Link.{Link}
use Rattle.tree_search.proofs.front.start_front.Goals as goal

pub returns-clause-room : goal.returns-clause-room
returns-clause-room c =
    let made = c.in_ok-links.ensures in
    let none = ap (λ (xs : List Entry). length xs) made.empty in
    let unlinked = ap (λ (xs : List Link). length xs) made.unlinked in (
      omega (arith, unlinked),
      omega (arith, unlinked, none, length_permutation _ _ c.put.ensures.put),
      omega (arith, made.links),
      omega (arith, made.waiting, c.put.ensures.capacity),
    )
