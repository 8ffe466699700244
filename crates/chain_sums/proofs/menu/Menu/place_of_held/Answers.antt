use Rattle.std.proofs.Common.{map, sym, ap, ◌∙◌}
use Rattle.fux_grid.specs.Cells.{held}
use Rattle.chain_sums.specs.Still.{packed_held}
use Rattle.chain_sums.proofs.StillLemmas.{packed_held-packed}
use Rattle.chain_sums.proofs.menu.Menu.place_of_held.Goals as goal

pub returns : goal.returns
returns c =
    c.place_of_number.ensures (map held c.args.column.now.items)
    (sym (c.packed_held.ensures ∙ ap packed_held c.as_slice.ensures.value ∙ packed_held-packed c.args.column.now.items))
