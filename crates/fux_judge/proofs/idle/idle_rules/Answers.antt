use Rattle.fux_judge.specs.Late.{SettlesNothing}
use Rattle.fux_judge.proofs.IdleLemmas.{alike_settles, no_quaver_settles}
use Rattle.fux_judge.proofs.LateLemmas.{one_more, placeless_settle}
use Rattle.fux_judge.proofs.idle.idle_rules.Goals as goal

pub returns : goal.returns
returns c =
    let ex = c.args.ex.now in
    let i = c.args.i in
    one_more (SettlesNothing ex i) c.with-more.result.bits _ _ _
    (one_more (SettlesNothing ex i) c.without_place-placeless.result.bits _ _ _
    (placeless_settle ex i c.without_place-placeless.result.bits c.without_place-placeless.ensures)
    (λ on. alike_settles ex i (c.are_shapes_alike.ensures on)) c.with-more.ensures)
    (λ on. no_quaver_settles ex i (c.end_no_quaver.ensures on)) c.with.ensures
