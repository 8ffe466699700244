use Rattle.std.proofs.Common.{ap, sym, ◌∙◌}
use Rattle.chain_sums.specs.Still.{all_hold}
use Rattle.cert_check.proofs.MenuLemmas.{still_more}
use Rattle.cert_check.proofs.menus.is_still.Goals as goal

pub loop-k-preserved : goal.loop-k-preserved
loop-k-preserved c =
    still_more c.args.columns.now c.loop-k.k c.index-columns-k.result c.loop-k-test.true c.index-columns-k.is
    (ap all_hold (sym c.as_slice.ensures.value) ∙ sym c.all_cells_hold.ensures ∙ c.if-not-all_cells_hold.false)
    c.loop-k.invariant
