use Rattle.tree_search.proofs.Quests.{answered}
use Rattle.tree_search.proofs.quest.search_quest.Goals as goal

pub returns-clause-exact : goal.returns-clause-exact
returns-clause-exact g c =
    let promised = c.search_front.ensures in
    let space = c.args.space.now in
    answered (g.S.QuestSpace.quest space) (g.S.Space.live space) (g.S.Space.width space) (g.S.Space.height space)
    (g.S.QuestSpace.there space) c.is_tree.ensures (g.met.S.Space.floors_grow space) c.args.budget
    c.search_front.result promised.found promised.nothing promised.over promised.found_load promised.nothing_load
    promised.spent promised.least promised.bound
