use Rattle.std.proofs.Common.{◌≡◌, ◌==◌, ◌&&◌, drop}
use Rattle.std.specs.List.{find}
use Rattle.fux_grid.proofs.given.find_bar.Given as goal

abbrev pub invariant-loop-line : goal.invariant-loop-line
invariant-loop-line l =
    find (λ line. (line.voice == l.v) && (line.bar == l.bar)) l.lines
    ≡ find (λ line. (line.voice == l.v) && (line.bar == l.bar)) (drop l.line-index l.lines)
