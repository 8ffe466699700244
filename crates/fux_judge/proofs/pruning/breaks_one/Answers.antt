use Rattle.std.proofs.Common.{sym, ◌∙◌, arith}
use Rattle.fux_judge.specs.Pruning.{reads_below}
use Rattle.fux_judge.proofs.PruningLemmas.{settled_at_once, breaks_here}
use Rattle.fux_judge.proofs.SumLemmas.{passes}
use Rattle.fux_judge.proofs.pruning.breaks_one.Goals as goal

pub is_strictly_broken-requires-clause-rule : goal.is_strictly_broken-requires-clause-rule
is_strictly_broken-requires-clause-rule c =
    settled_at_once _ (passes reads_below c.args.rules.now c.loop-rule.rule-index c.requires.rules (omega arith))

pub returns-then-is_strictly_broken : goal.returns-then-is_strictly_broken
returns-then-is_strictly_broken c = λ n below p is.
    let m = c.moment_of-moment.result in
    let of = c.moment_of-moment.ensures in
    breaks_here _ c.args.voices.bits n c.args.ex.now p c.args.col.now.items m of.exercise of.column
    (passes reads_below c.args.rules.now c.loop-rule.rule-index c.requires.rules (omega arith)) below
    (sym (c.is_strictly_broken.ensures p (of.after p is)) ∙ c.if-is_strictly_broken.true)
