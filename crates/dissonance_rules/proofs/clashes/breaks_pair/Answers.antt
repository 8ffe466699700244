use Rattle.std.specs.Prelude.{◌+◌, [], drop, slice_index_or}
use Rattle.fux_grid.specs.Columns.{earlier}
use Rattle.dissonance_rules.proofs.LateReadings.{first_way, pair_by_way, second_way}
use Rattle.dissonance_rules.proofs.clashes.breaks_pair.Goals as goal

pub returns-then-breaks_one_way : goal.returns-then-breaks_one_way
returns-then-breaks_one_way g c = λ s first shown from there.
    first_way _ _ _ _
    (pair_by_way c.args.rule c.args.ex.now c.args.i (earlier s c.args.i) (slice_index_or s c.args.i [])
    (drop (c.args.i + 1) s) c.args.v c.args.w c.if-rule-eq27.false)
    (c.breaks_one_way.ensures s first shown from there) (c.if-breaks_one_way.ensures s first shown from there)

pub returns-else-breaks_one_way : goal.returns-else-breaks_one_way
returns-else-breaks_one_way g c = λ s first shown from there.
    second_way _ _ _ _
    (pair_by_way c.args.rule c.args.ex.now c.args.i (earlier s c.args.i) (slice_index_or s c.args.i [])
    (drop (c.args.i + 1) s) c.args.v c.args.w c.if-rule-eq27.false)
    (c.breaks_one_way-else-breaks_one_way.ensures s first shown from there)
    (c.if-breaks_one_way.ensures s first shown from there)
