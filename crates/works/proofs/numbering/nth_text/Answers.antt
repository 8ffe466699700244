use Rattle.species_space.specs.Paths.{prefix_at}
use Rattle.works.proofs.ToldLemmas.{has_cantus, is_whole}
use Rattle.works.proofs.numbering.nth_text.Goals as goal

pub best_text-requires-clause-complete : goal.best_text-requires-clause-complete
best_text-requires-clause-complete c =
    is_whole c.args.exercise.now c.args.space.now.exercise c.requires.space
    (prefix_at c.args.space.now.exercise c.args.path.now) c.requires.setting c.in_ok-score.score
    c.in_ok-score.ensures

pub returns-in_err-score-clause-cantus : goal.returns-in_err-score-clause-cantus
returns-in_err-score-clause-cantus c =
    has_cantus c.args.exercise.now c.args.space.now.exercise c.requires.space
    (prefix_at c.args.space.now.exercise c.args.path.now) c.requires.setting c.requires.valid

pub returns-clause-cantus : goal.returns-clause-cantus
returns-clause-cantus c =
    has_cantus c.args.exercise.now c.args.space.now.exercise c.requires.space
    (prefix_at c.args.space.now.exercise c.args.path.now) c.requires.setting c.requires.valid
