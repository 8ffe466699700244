use Rattle.std.proofs.Common.{◌≡◌, None, get_or, ◌∙◌, arith}
use Rattle.std.proofs.lemmas.List.{get_or_read_under}
use Rattle.chain_sums.proofs.TableLemmas.{is_asked, least_at, small_in, sums_beside}
use Rattle.chain_sums.proofs.tables.Tables.rest.Goals as goal

pub returns-in_err-k-clause-least : goal.returns-in_err-k-clause-least
returns-in_err-k-clause-least c = λ chains are within there.
    let row = c.in_ok-row.row.now in
    let menu = c.index.result.now in
    let here = c.in_ok-row.ensures chains are within in
    let asked = is_asked chains c.args.self.now.menus.items c.args.i row menu c.args.column.now.items are.rows.packed
    here c.index.ensures there in
    absurd (c.in_err-k.ensures chains.voices asked.packed asked.there)

pub returns-then-k-len-clause-least : goal.returns-then-k-len-clause-least
returns-then-k-len-clause-least c = λ chains are within there.
    let row = c.in_ok-row.row.now in
    let menu = c.index.result.now in
    let here = c.in_ok-row.ensures chains are within in
    let asked = is_asked chains c.args.self.now.menus.items c.args.i row menu c.args.column.now.items are.rows.packed
    here c.index.ensures there in
    let found = c.in_ok-k.ensures chains.voices asked.packed asked.there in
    absurd (omega (
      arith,
      found.0,
      c.if-k-len.true,
      c.len-2.ensures,
      row.sums.ok.0,
      sums_beside chains c.args.i row menu
          c.args.column.now.items asked,
    ))

pub returns-clause-least : goal.returns-clause-least
returns-clause-least c = λ chains are within there.
    let row = c.in_ok-row.row.now in
    let menu = c.index.result.now in
    let here = c.in_ok-row.ensures chains are within in
    let asked = is_asked chains c.args.self.now.menus.items c.args.i row menu c.args.column.now.items are.rows.packed
    here c.index.ensures there in
    let found = c.in_ok-k.ensures chains.voices asked.packed asked.there in
    let sum : c.index-2.result.now ≡ get_or row.sums.items c.in_ok-k.k None =
    get_or_read_under row.sums.items c.in_ok-k.k c.len-2.result c.index-2.result.now None c.index-2.ensures
    c.if-k-len.false (c.len-2.ensures ∙ row.sums.ok.0) in
    rw sum (least_at chains c.args.i c.in_ok-k.k row menu c.args.column.now.items asked found.0 found.1)

pub returns-clause-small : goal.returns-clause-small
returns-clause-small c = λ chains are within.
    let row = c.in_ok-row.row.now in
    let sum : c.index-2.result.now ≡ get_or row.sums.items c.in_ok-k.k None =
    get_or_read_under row.sums.items c.in_ok-k.k c.len-2.result c.index-2.result.now None c.index-2.ensures
    c.if-k-len.false (c.len-2.ensures ∙ row.sums.ok.0) in
    rw sum (small_in chains c.args.self.now.menus.items c.args.i c.in_ok-k.k row (c.in_ok-row.ensures chains are within)
    (omega (arith, c.if-k-len.false, c.len-2.ensures, row.sums.ok.0)))
