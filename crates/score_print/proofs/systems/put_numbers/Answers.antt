use Rattle.std.proofs.Common.{◌-◌, ◌++◌, string_bytes}
use Rattle.std.specs.List.{flat_map, range_with_len}
use Rattle.score_print.specs.Systems.{printed_number}
use Rattle.score_print.proofs.RowSteps.{part-made}
use Rattle.score_print.proofs.systems.put_numbers.Goals as goal

pub loop-bar-preserved : goal.loop-bar-preserved
loop-bar-preserved c =
    let f = printed_number c.args.ex.now c.args.slots in
    part-made f c.loop-bar.bar c.args.end (string_bytes c.loop-bar.out) (string_bytes c.put_number.new.out)
    (string_bytes c.args.out.now ++ flat_map f (range_with_len c.args.first (c.args.end - c.args.first)))
    c.loop-bar-test.true c.in_ok-put_number.ensures c.loop-bar.invariant
