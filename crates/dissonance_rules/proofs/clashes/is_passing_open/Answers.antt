use Rattle.std.specs.Prelude.{◌+◌, [], drop, take, slice_index_or}
use Rattle.std.proofs.Common.{arith}
use Rattle.dissonance_rules.specs.Passing.{is_open_clash}
use Rattle.dissonance_rules.proofs.LateReadings.{second_way, ways}
use Rattle.dissonance_rules.proofs.clashes.is_passing_open.Goals as goal

pub returns-else-is_open_one_way : goal.returns-else-is_open_one_way
returns-else-is_open_one_way g c = λ s first shown from.
    second_way _ _ _ _
    (ways c.args.ex.now (is_open_clash c.args.ex.now c.args.i (slice_index_or s c.args.i [])
    (drop (c.args.i + 1) (take c.args.end s))) c.args.voices.bits c.in-Some.v c.in-Some.w c.in-Some.ensures
    (omega (arith, c.if-w-ex.false)))
    (c.is_open_one_way-else-is_open_one_way.ensures s first shown from) (c.if-is_open_one_way.ensures s first shown from)
