use Rattle.std.proofs.Common.{◌+◌}
use Rattle.std.proofs.lemmas.Bool.{OnFalse_at, OnFalse_from}
use Rattle.fux_judge.proofs.pruning.breaks_with.Goals as goal

pub returns-then-breaks_alone-clause-dead : goal.returns-then-breaks_alone-clause-dead
returns-then-breaks_alone-clause-dead c =
    c.if-breaks_alone.ensures.dead (c.args.voice + 1) c.alone.ensures.below

pub returns-clause-fair : goal.returns-clause-fair
returns-clause-fair c =
    OnFalse_from c.breaks_with_lower.result _
    (λ no nothing p is. record {
      melody = c.if-breaks_alone.ensures.smooth nothing p is;
      motion = λ lower lt. OnFalse_at no c.breaks_with_lower.ensures.fair lower lt nothing p is;
    })
