use Rattle.std.proofs.Common.{◌-◌, ◌++◌, string_bytes}
use Rattle.std.specs.List.{flat_map, range_with_len}
use Rattle.score_print.specs.Printed.{printed_bar}
use Rattle.score_print.proofs.RowSteps.{part-made}
use Rattle.score_print.proofs.rows.put_bars.Goals as goal

pub loop-bar-preserved : goal.loop-bar-preserved
loop-bar-preserved c =
    let f = printed_bar c.args.ex.now c.args.slots c.args.v in
    part-made f c.loop-bar.bar c.args.end (string_bytes c.loop-bar.out) (string_bytes c.put_bar.new.out)
    (string_bytes c.args.out.now ++ flat_map f (range_with_len c.args.first (c.args.end - c.args.first)))
    c.loop-bar-test.true c.in_ok-put_bar.ensures c.loop-bar.invariant
