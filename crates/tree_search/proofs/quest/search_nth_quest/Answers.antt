use Rattle.tree_search.proofs.NthQuests.{numbered}
use Rattle.tree_search.proofs.quest.search_nth_quest.Goals as goal

pub returns-clause-exact : goal.returns-clause-exact
returns-clause-exact g c =
    let promised = c.search_nth.ensures in
    let space = c.args.space.now in
    numbered (g.S.QuestSpace.quest space) (g.S.Space.live space) (g.S.Space.width space) (g.S.Space.height space)
    (g.S.QuestSpace.there space) c.is_tree.ensures (g.met.S.Space.floors_grow space) c.args.nth c.args.budget
    c.search_nth.result promised.found promised.only promised.over promised.found_load promised.only_load
    promised.spent promised.least promised.bound
