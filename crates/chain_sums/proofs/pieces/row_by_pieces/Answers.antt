use Rattle.std.proofs.Common.{◌+◌, ap, ◌∙◌}
use Rattle.std.proofs.lemmas.Result.{IfOk-weaker}
use Rattle.fux_grid.specs.Grid.{items_of}
use Rattle.chain_sums.proofs.PieceLemmas.{entries_gathered, row_of_entries, small_of_entries}
use Rattle.chain_sums.proofs.pieces.row_by_pieces.Goals as goal

pub returns-clause-row : goal.returns-clause-row
returns-clause-row g c =
    let chains = g.L.Links.chains c.args.links.now in
    let columns = c.as_slice-columns.result.now in
    let parts = c.in_ok-parts in
    IfOk-weaker c.gathered.result _ _
    (λ row done. row_of_entries chains c.args.i _ columns row.items
    (ap items_of c.as_slice-columns.ensures ∙ c.requires.menu)
    (entries_gathered chains (c.args.i + 1) _ c.args.cut.now.piece columns parts.parts.items c.deref.result.now row.items
    c.deref.ensures.value done c.args.cut.now.some parts.ensures.count parts.ensures.each))
    c.gathered.ensures

pub returns-clause-small : goal.returns-clause-small
returns-clause-small g c =
    let chains = g.L.Links.chains c.args.links.now in
    let columns = c.as_slice-columns.result.now in
    let parts = c.in_ok-parts in
    IfOk-weaker c.gathered.result _ _
    (λ row done. small_of_entries chains (c.args.i + 1) _ columns row.items
    (entries_gathered chains (c.args.i + 1) _ c.args.cut.now.piece columns parts.parts.items c.deref.result.now row.items
    c.deref.ensures.value done c.args.cut.now.some parts.ensures.count parts.ensures.each))
    c.gathered.ensures
