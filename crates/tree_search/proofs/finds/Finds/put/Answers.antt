use Rattle.std.proofs.Common.{heap_items, heap_len, inl, inr, refl, arith}
use Rattle.std.proofs.lemmas.List.Sorted.{length_permutation}
use Rattle.tree_search.proofs.Kept.{let_go}
use Rattle.tree_search.specs.Finds.{kept}
use Rattle.tree_search.proofs.finds.Finds.put.Goals as goal

pub returns-then-len-self-clause-put : goal.returns-then-len-self-clause-put
returns-then-len-self-clause-put c = record {
  leaf = (c.args.value, (c.in_ok-copy.copy, c.args.entry));
  value_is = refl;
  path_is = c.in_ok-copy.ensures.items;
  entry_is = refl;
  taken = inl (
    omega (
      arith,
      c.if-len-self.true,
      c.len.ensures,
      c.push.new.self.data.ok.0,
      length_permutation _ _ c.in_ok-push.ensures.permutation,
    ),
    c.in_ok-push.ensures.permutation,
  );
}

pub returns-clause-put : goal.returns-clause-put
returns-clause-put c = record {
  leaf = (c.args.value, (c.in_ok-copy.copy, c.args.entry));
  value_is = refl;
  path_is = c.in_ok-copy.ensures.items;
  entry_is = refl;
  taken = inr (let_go c.args.self.now.most (heap_len c.push.new.self) (kept c.args.self.now) (heap_items c.push.new.self)
      (heap_items c.pop.new.self) (c.args.value, (c.in_ok-copy.copy, c.args.entry)) c.pop.result c.requires.1
      (omega (arith, c.push.new.self.data.ok.0)) (omega (arith, c.if-len-self.false, c.len.ensures))
      c.in_ok-push.ensures.permutation (c.in_ok-push.ensures.heap_order c.requires.0) c.pop.ensures.none
      c.pop.ensures.permutation c.pop.ensures.below_top);
}
