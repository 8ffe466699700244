use Rattle.std.proofs.Common.{◌-◌, ◌≡◌, drop}
use Rattle.std.specs.List.{filter}
use Rattle.chain_sums.specs.Sums.{column_follows}
use Rattle.fux_grid.specs.Menus.{menu_of}
use Rattle.cert_law.proofs.tails.Tails.next.Given as goal

abbrev pub invariant-loop-k : goal.invariant-loop-k
invariant-loop-k g l =
    filter (column_follows l.before) (drop l.k (menu_of (g.Self.Tails.basis l.self).exercise l.i))
    ≡ filter (column_follows l.before) (drop l.from (menu_of (g.Self.Tails.basis l.self).exercise l.i))

abbrev pub decreases-loop-k : goal.decreases-loop-k
decreases-loop-k g l = l.width - l.k
