use Rattle.std.proofs.Common.{◌+◌, subst}
use Rattle.tree_search.specs.NthQuests.{IsNthWithin}
use Rattle.works.proofs.ToldLemmas.{nth_at}
use Rattle.works.proofs.telling.nth_told.Goals as goal

pub returns-in_ok-tell-in-Found : goal.returns-in_ok-tell-in-Found
returns-in_ok-tell-in-Found g c =
    let nth = c.args.before + 1 in
    let path = c.as_slice.result.now in
    let quest = g.T.Tree.QuestSpace.quest in
    let there = g.T.Tree.QuestSpace.there in
    let within = nth_at (quest c.space.result.now) (g.T.Tree.Space.live c.space.result.now) (there c.space.result.now)
    nth c.args.budget path c.in-Found.is c.in_ok-path.ensures.exact.found c.as_slice.ensures in
    rw c.of_bytes.ensures record {
      path = path;
      penalty = c.in-Found.value;
      it = subst (λ space. IsNthWithin (quest space) nth c.args.budget (there space path) c.in-Found.value)
          c.space.ensures within;
      written = c.in_ok-tell-in-Found.ensures;
    }
