use Rattle.std.proofs.Common.{◌≡◌, None, get_or, ◌∙◌, arith}
use Rattle.std.proofs.lemmas.List.{get_or_read_under}
use Rattle.chain_sums.proofs.TableLemmas.{small_in}
use Rattle.chain_sums.proofs.tables.Tables.rest_of_number.Goals as goal

pub returns-then-k-len-clause-least : goal.returns-then-k-len-clause-least
returns-then-k-len-clause-least c = λ chains are within there.
    let row = c.in_ok-row.row.now in
    let here = c.in_ok-row.ensures chains are within in
    absurd (omega (arith, c.if-k-len.true, c.len.ensures, row.sums.ok.0, here.sums.beside, there))

pub returns-clause-least : goal.returns-clause-least
returns-clause-least c = λ chains are within there.
    let row = c.in_ok-row.row.now in
    let here = c.in_ok-row.ensures chains are within in
    let sum : c.index.result.now ≡ get_or row.sums.items c.args.k None =
    get_or_read_under row.sums.items c.args.k c.len.result c.index.result.now None c.index.ensures c.if-k-len.false
    (c.len.ensures ∙ row.sums.ok.0) in
    rw sum (here.sums.least c.args.k there)

pub returns-clause-small : goal.returns-clause-small
returns-clause-small c = λ chains are within.
    let row = c.in_ok-row.row.now in
    let sum : c.index.result.now ≡ get_or row.sums.items c.args.k None =
    get_or_read_under row.sums.items c.args.k c.len.result c.index.result.now None c.index.ensures c.if-k-len.false
    (c.len.ensures ∙ row.sums.ok.0) in
    rw sum (small_in chains c.args.self.now.menus.items c.args.i c.args.k row (c.in_ok-row.ensures chains are within)
    (omega (arith, c.if-k-len.false, c.len.ensures, row.sums.ok.0)))
