use Rattle.works.proofs.BestLemmas.{first_is_live, score_at}
use Rattle.works.proofs.searching.setting_at.Goals as goal

pub score_of-requires : goal.score_of-requires
score_of-requires c =
    first_is_live c.args.space.now.exercise c.args.space.now.sheet c.args.path.now c.args.penalty c.requires.first

pub returns : goal.returns
returns c =
    score_at c.args.space.now c.requires.valid c.args.path.now c.args.penalty c.score_of.result c.requires.first
    c.score_of.ensures
