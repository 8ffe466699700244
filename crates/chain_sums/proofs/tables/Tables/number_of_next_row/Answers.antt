use Rattle.std.proofs.Common.{◌≡◌, ◌+◌, ◌<◌, length, ◌∙◌, arith}
use Rattle.chain_sums.proofs.TableLemmas.{next_row, same_row}
use Rattle.chain_sums.proofs.tables.Tables.number_of_next_row.Goals as goal

pub returns-then-goes_on_freely : goal.returns-then-goes_on_freely
returns-then-goes_on_freely g c =
    let chains = g.L.Links.chains c.args.links.now in
    let tables = c.args.self.now in
    let places = tables.places.items in
    let rows = c.requires.rows in
    let count : c.len-count.result ≡ length places = c.len-count.ensures ∙ tables.places.ok.0 in
    let some : 0 < c.len-count.result = omega (arith, c.if-count-eq0.false) in
    let within : c.args.i + 1 < chains.places = omega (arith, c.requires.place, count, some) in
    same_row chains c.args.i tables.menus.items tables.rows.items c.index-number.result.now c.index.result.now within
    rows.packed c.if-goes_on_freely.ensures
    (next_row chains c.args.i tables.menus.items tables.rows.items places c.len-count.result c.index-number.result.now
    rows c.requires.place count some c.index-number.ensures)
