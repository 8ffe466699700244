use Rattle.std.proofs.Common.{sym, ap, ◌∙◌}
use Rattle.chain_sums.specs.Packed.{packed}
use Rattle.chain_sums.proofs.menu.Menu.place_of.Goals as goal

pub returns : goal.returns
returns c =
    c.place_of_number.ensures c.args.column.now.items (sym (c.packed.ensures ∙ ap packed c.as_slice.ensures.value))
