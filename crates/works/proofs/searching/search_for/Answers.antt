use Rattle.std.proofs.lemmas.Result.{IfOk-weaker}
use Rattle.works.proofs.BestLemmas.{first_finds, second_finds, third_finds}
use Rattle.works.proofs.searching.search_for.Goals as goal

pub returns-in-First : goal.returns-in-First
returns-in-First c =
    let space = c.args.space.now in
    rw c.in-First.is
    (IfOk-weaker c.search.result _ _ (first_finds space.exercise space.sheet c.args.budget) c.search.ensures)

pub returns-in-Second : goal.returns-in-Second
returns-in-Second c =
    let space = c.args.space.now in
    rw c.in-Second.is
    (IfOk-weaker c.search-in-Second.result _ _ (second_finds space.exercise space.sheet c.args.budget)
    c.search-in-Second.ensures)

pub returns-in-Third : goal.returns-in-Third
returns-in-Third c =
    let space = c.args.space.now in
    rw c.in-Third.is
    (IfOk-weaker c.search_sharply.result _ _ (third_finds space.exercise space.sheet c.args.budget) c.search_sharply.ensures)
