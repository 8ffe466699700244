use Rattle.std.proofs.Common.{◌≡◌, ◌+◌, ◌-◌, ◌++◌, string_bytes, ap, arith}
use Rattle.std.specs.List.{flat_map, range_with_len}
use Rattle.score_print.specs.Printed.{printed_column}
use Rattle.score_print.proofs.RowSteps.{part-made}
use Rattle.score_print.proofs.rows.put_columns.Goals as goal

pub loop-i-init : goal.loop-i-init
loop-i-init c =
    let first = c.args.first in
    let count = c.args.count in
    let all : first + count - first ≡ count = omega arith in
    ap (λ n. string_bytes c.args.out.now ++ flat_map (printed_column c.args.ex.now c.args.v) (range_with_len first n)) all

pub loop-i-preserved : goal.loop-i-preserved
loop-i-preserved c =
    let f = printed_column c.args.ex.now c.args.v in
    part-made f c.loop-i.i (c.args.first + c.args.count) (string_bytes c.loop-i.out) (string_bytes c.put_column.new.out)
    (string_bytes c.args.out.now ++ flat_map f (range_with_len c.args.first c.args.count))
    c.loop-i-test.true c.in_ok-put_column.ensures c.loop-i.invariant
