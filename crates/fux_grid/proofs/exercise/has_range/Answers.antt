use Rattle.std.proofs.Common.{◌↔◌, IsTrue}
use Rattle.fux_grid.specs.Exercises.{BeginsWithWhole, IsFree, range_lines}
use Rattle.fux_grid.proofs.exercise.has_range.Goals as goal

pub returns-else-not-is_free : goal.returns-else-not-is_free
returns-else-not-is_free c =
    let begins : IsTrue c.begins_with_whole.result
    ↔ BeginsWithWhole (range_lines c.args.ex.now c.args.v) = rw c.as_slice.ensures at c.begins_with_whole.ensures in
    let free : IsFree c.args.ex.now c.args.v = c.is_free.ensures.0 c.if-not-is_free.false in
    (λ h _. begins.0 h, λ f. begins.1 (f free))
