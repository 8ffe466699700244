use Rattle.fux_judge.proofs.OwnTolls.{own_of_each}
use Rattle.fux_judge.proofs.own.charges.Goals as goal

pub returns-clause-value : goal.returns-clause-value
returns-clause-value c =
    own_of_each c.args.ex.now c.args.sheet.now c.args.i c.args.now.now _ _ _ _ _ _ _ c.charge.ensures.value
    c.charge-2.ensures.value c.charge-3.ensures.value c.charge-4.ensures.value c.charge-5.ensures.value
    c.charge-6.ensures.value c.charge-7.ensures.value
