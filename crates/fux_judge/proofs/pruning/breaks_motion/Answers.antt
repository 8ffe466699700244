use Rattle.std.proofs.Common.{◌+◌, refl, ap, sym, ◌∙◌}
use Rattle.std.proofs.lemmas.Bool.{OnFalse_from, OnTrue_from}
use Rattle.fux_grid.specs.declared.exercise.Exercise.{Exercise}
use Rattle.fux_judge.proofs.FairLemmas.{fair_pair, pair_here}
use Rattle.fux_judge.proofs.PruningLemmas.{breaks_here, settled_at_once}
use Rattle.fux_judge.proofs.pruning.breaks_motion.Goals as goal

pub is_strictly_broken-requires-clause-rule : goal.is_strictly_broken-requires-clause-rule
is_strictly_broken-requires-clause-rule c = settled_at_once 16 refl

pub is_strictly_broken-requires-2-clause-rule : goal.is_strictly_broken-requires-2-clause-rule
is_strictly_broken-requires-2-clause-rule c = settled_at_once 17 refl

pub returns-then-is_strictly_broken-clause-dead : goal.returns-then-is_strictly_broken-clause-dead
returns-then-is_strictly_broken-clause-dead c = λ p is.
    let m = c.moment_of-moment.result in
    let of = c.moment_of-moment.ensures in
    breaks_here 16 c.both-voices.result.bits (c.args.upper + 1) c.args.ex.now p c.args.col.now.items m of.exercise
    of.column refl c.both-voices.ensures.below
    (sym (c.is_strictly_broken.ensures p (of.after p is)) ∙ c.if-is_strictly_broken.true)

pub returns-clause-dead : goal.returns-clause-dead
returns-clause-dead c =
    OnTrue_from c.is_strictly_broken-2.result _
    (λ yes p is.
    let m = c.moment_of-moment.result in
    let of = c.moment_of-moment.ensures in
    breaks_here 17 c.both-voices.result.bits (c.args.upper + 1) c.args.ex.now p c.args.col.now.items m of.exercise
    of.column refl c.both-voices.ensures.below (sym (c.is_strictly_broken-2.ensures p (of.after p is)) ∙ yes))

pub returns-clause-fair : goal.returns-clause-fair
returns-clause-fair c =
    OnFalse_from c.is_strictly_broken-2.result _
    (λ no nothing p is.
    let m = c.moment_of-moment.result in
    let of = c.moment_of-moment.ensures in
    pair_here c.args.ex.now c.args.col.now.items m of.exercise of.column p c.args.lower c.args.upper
    (fair_pair p m (ap (λ (e : Exercise). e.relax) of.exercise ∙ nothing) c.both-voices.result.bits c.args.lower
    c.args.upper c.both-voices.ensures.pair
    (sym (c.is_strictly_broken.ensures p (of.after p is)) ∙ c.if-is_strictly_broken.false)
    (sym (c.is_strictly_broken-2.ensures p (of.after p is)) ∙ no)))
