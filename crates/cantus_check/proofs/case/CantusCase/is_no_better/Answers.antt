use Rattle.std.proofs.Common.{reverse, refl, arith}
use Rattle.std.specs.Ordering.{is_lt}
use Rattle.cantus_space.specs.Rules.{floor_of}
use Rattle.cantus_check.proofs.Tellings.{higher_truth, lower_truth, tied_truth}
use Rattle.cantus_check.proofs.case.CantusCase.is_no_better.Goals as goal

pub returns-then-penalty-floor : goal.returns-then-penalty-floor
returns-then-penalty-floor c = λ ps judged.
    let it = c.args.self.now in
    higher_truth it.head.best (c.in-Some.penalty, c.in-Some.field-0-1) c.in-Some.is ps c.args.known.now.order judged.order
    c.floor-floor.result (floor_of it.space (reverse ps)) (c.floor-floor.ensures (reverse ps) judged.node)
    c.if-penalty-floor.true

pub returns-then-floor-penalty : goal.returns-then-floor-penalty
returns-then-floor-penalty c = λ ps judged.
    let it = c.args.self.now in
    tied_truth it.head.best (c.in-Some.penalty, c.in-Some.field-0-1) c.in-Some.is ps c.args.known.now.order judged.order
    c.floor-floor.result (floor_of it.space (reverse ps)) c.is_lt.result
    (c.floor-floor.ensures (reverse ps) judged.node) c.if-floor-penalty.true c.is_lt.ensures

pub returns-else-floor-penalty : goal.returns-else-floor-penalty
returns-else-floor-penalty c = λ ps judged.
    let it = c.args.self.now in
    lower_truth it.head.best (c.in-Some.penalty, c.in-Some.field-0-1) c.in-Some.is ps c.args.known.now.order judged.order
    c.floor-floor.result (floor_of it.space (reverse ps)) _
    (c.floor-floor.ensures (reverse ps) judged.node) (omega (arith, c.if-penalty-floor.false)) c.if-floor-penalty.false
    refl
