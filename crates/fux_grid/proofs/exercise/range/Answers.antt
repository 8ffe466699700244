use Rattle.std.proofs.Common.{◌≡◌}
use Rattle.fux_grid.specs.Menus.{range_line}
use Rattle.fux_grid.proofs.RangeLemmas.{range_line-some}
use Rattle.fux_grid.proofs.exercise.range.Goals as goal

pub unwrap-line-requires : goal.unwrap-line-requires
unwrap-line-requires c =
    let line : c.last_line.result ≡ range_line c.args.ex.now c.args.v c.args.bar = rw c.as_slice.ensures at
    c.last_line.ensures in
    rw line (range_line-some c.args.ex.now c.args.v c.args.bar
    (c.requires.valid.each_has_range c.args.v c.requires.free))
