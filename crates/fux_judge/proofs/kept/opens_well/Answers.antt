use Rattle.std.specs.Prelude.{not}
use Rattle.std.proofs.Common.{ap, sym}
use Rattle.std.proofs.lemmas.Bool.{OnTrue_at}
use Rattle.fux_judge.proofs.SoundLemmas.{unopened}
use Rattle.fux_judge.proofs.kept.opens_well.Goals as goal

pub returns-then-begins_no_line : goal.returns-then-begins_no_line
returns-then-begins_no_line c = λ p after.
    sym (ap not (unopened p c.args.m.now after (OnTrue_at c.if-begins_no_line.true c.begins_no_line.ensures)))

pub returns : goal.returns
returns c = λ p after. ap not (c.breaks_opening.ensures p after)
