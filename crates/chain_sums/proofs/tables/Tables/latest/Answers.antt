use Rattle.std.proofs.Common.{◌≡◌, ◌<◌, length, ◌∙◌, arith}
use Rattle.chain_sums.proofs.TableLemmas.{latest_found}
use Rattle.chain_sums.proofs.tables.Tables.latest.Goals as goal

pub returns : goal.returns
returns c = λ chains are.
    let places = c.args.self.now.places.items in
    let last : c.len-count.result ≡ length places = c.len-count.ensures ∙ c.args.self.now.places.ok.0 in
    let some : 0 < length places = omega (arith, last, c.if-count-eq0.false) in
    latest_found chains c.args.self.now.menus.items c.args.self.now.rows.items places c.len-count.result
    c.index.result.now c.numbered.result are last some c.index.ensures c.numbered.ensures
