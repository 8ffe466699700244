use Rattle.std.proofs.Common.{◌≡◌, ◌-◌, ◌<◌, length, subst, ◌∙◌, arith}
use Rattle.std.proofs.lemmas.List.{get_or_default}
use Rattle.chain_sums.specs.declared.tables.Row.{Row}
use Rattle.chain_sums.specs.Tables.{AreSameRows}
use Rattle.chain_sums.proofs.TableLemmas.{row_of_last, row_of_other}
use Rattle.chain_sums.proofs.tables.number_of_row.Goals as goal

pub returns-then-are_same_rows : goal.returns-then-are_same_rows
returns-then-are_same_rows c =
    let rows = c.args.rows.now.items in
    let count : c.len-count.result ≡ length rows = c.len-count.ensures ∙ c.args.rows.now.ok.0 in
    let within : c.len-count.result - 1 < length rows = omega (arith, count, c.if-count-gt0.true) in
    row_of_other rows c.args.row (c.len-count.result - 1) within
    (subst (λ (r : Row). AreSameRows r c.args.row)
    (c.index.ensures ∙ get_or_default rows (c.len-count.result - 1) c.index.result.now c.args.row within)
    c.if-are_same_rows.ensures)

pub returns : goal.returns
returns c =
    rw c.in_ok-push.ensures.items
    (row_of_last c.args.rows.now.items c.args.row c.len-count.result (c.len-count.ensures ∙ c.args.rows.now.ok.0))
