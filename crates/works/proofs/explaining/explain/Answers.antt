use Rattle.works.proofs.ExplainLemmas.{explains_exercise}
use Rattle.works.proofs.explaining.explain.Goals as goal

pub returns-in-Ok : goal.returns-in-Ok
returns-in-Ok c = λ bytes content.
    explains_exercise c.args.subject.now c.args.name.now bytes c.in-Ok.exercise c.subject_output.result
    (c.in-Ok.ensures.reads bytes content) c.subject_output.ensures
