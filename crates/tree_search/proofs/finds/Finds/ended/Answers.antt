use Rattle.std.proofs.Common.{heap_items, refl, sym, arith}
use Rattle.tree_search.proofs.Kept.{last_of_bound}
use Rattle.tree_search.proofs.finds.Finds.ended.Goals as goal

pub returns : goal.returns
returns c = record {
  found = record {
    full = omega (arith, c.if-count-self.false, c.len-count.ensures, c.requires.finds.1, c.args.self.leaves.data.ok.0);
    last = (c.in-Some.value, (c.in-Some.path, c.in-Some.field-0-1-1));
    others = heap_items c.pop.new.self;
    is_last = record {
      moved = c.in-Some.ensures.permutation;
      last_of = last_of_bound (c.in-Some.value, (c.in-Some.path, c.in-Some.field-0-1-1)) (heap_items c.pop.new.self)
          (c.in-Some.ensures.below_top c.requires.finds.0);
    };
    value_is = refl;
    path_is = sym c.new.ensures;
  };
  only = tt;
  unspent = λ spent. spent;
}
