use Rattle.std.proofs.Common.{◌≡◌, length}
use Rattle.chain_sums.specs.Tables.{AreRows}
use Rattle.chain_sums.proofs.tables.Tables.fill.Given as goal

abbrev pub invariant-loop-done : goal.invariant-loop-done
invariant-loop-done g l = record {
  counted : length l.tables.places.items ≡ l.done;
  rows : AreRows (g.L.Links.chains l.links) l.tables.menus.items l.tables.rows.items l.tables.places.items;
}
