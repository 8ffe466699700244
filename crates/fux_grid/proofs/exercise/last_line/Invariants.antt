use Rattle.std.proofs.Common.{◌≡◌, ◌==◌, ◌&&◌, filter, drop, None}
use Rattle.std.specs.List.{last_or}
use Rattle.fux_grid.specs.Menus.{covers}
use Rattle.fux_grid.proofs.exercise.last_line.Given as goal

abbrev pub invariant-loop-line : goal.invariant-loop-line
invariant-loop-line l =
    last_or None (filter (λ line. (line.voice == l.v) && covers line.bars l.bar) l.lines)
    ≡ last_or l.last (filter (λ line. (line.voice == l.v) && covers line.bars l.bar) (drop l.line-index l.lines))
