use Rattle.std.proofs.Common.{◌-◌, ◌++◌, string_bytes}
use Rattle.std.specs.List.{range_with_len}
use Rattle.score_print.specs.Printed.{printed_row, printed_rows}
use Rattle.score_print.proofs.RowSteps.{part-made-down}
use Rattle.score_print.proofs.rows.put_rows.Goals as goal

pub loop-v-preserved : goal.loop-v-preserved
loop-v-preserved c =
    let bars = range_with_len c.args.first (c.args.end - c.args.first) in
    part-made-down (printed_row c.args.ex.now c.args.slots bars) c.loop-v.v (string_bytes c.loop-v.out)
    (string_bytes c.put_row.new.out) (string_bytes c.args.out.now ++ printed_rows c.args.ex.now c.args.slots bars)
    c.loop-v-test.true c.in_ok-put_row.ensures c.loop-v.invariant
