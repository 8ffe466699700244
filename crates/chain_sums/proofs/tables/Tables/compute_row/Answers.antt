use Rattle.std.proofs.Common.{◌≡◌, ◌-◌, ◌*◌, ◌^◌, ℕ, length, ap, subst, arith}
use Rattle.chain_sums.specs.declared.tables.Row.{Row}
use Rattle.chain_sums.specs.Rows.{AllAtMost}
use Rattle.chain_sums.specs.Tables.{IsRowAt}
use Rattle.chain_sums.proofs.TableLemmas.{rows_more}
use Rattle.chain_sums.proofs.tables.Tables.compute_row.Goals as goal

pub returns-clause-rows : goal.returns-clause-rows
returns-clause-rows g c =
    let chains = g.L.Links.chains c.args.links.now in
    let kept = c.number_of_menu.new.self in
    let places = kept.places.items in
    let row : Row = record { menu = c.in_ok-number.number; sums = c.in_ok-sums.sums } in
    let same = ap length c.in_ok-number.ensures.places in
    let later : length places ≡ chains.places - 1 - c.args.i = omega (arith, c.requires.place, same) in
    let here : IsRowAt chains c.args.i kept.menus.items row = record {
      named = c.in_ok-number.ensures.number.within;
      menu = c.in_ok-number.ensures.number.columns;
      sums = c.in_ok-sums.ensures.row;
      small = subst (λ (n : ℕ). AllAtMost (n * 2 ^ 53) row.sums.items) later c.in_ok-sums.ensures.small;
    } in
    rw c.in_ok-push.ensures.items
    (rows_more chains c.args.i c.in_ok-place.place kept.menus.items kept.rows.items c.number_of_row.new.rows.items row
    places c.in_ok-place.ensures c.in_ok-number.ensures.rows (omega (arith, c.requires.place, same)) here)
