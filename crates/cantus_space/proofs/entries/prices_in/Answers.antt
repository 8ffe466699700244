use Rattle.std.proofs.Common.{◌≡◌, ℕ, ◌+◌, List, length-set, ap, ◌∙◌, arith}
use Rattle.std.proofs.lemmas.List.Edits.{fill_by_more}
use Rattle.std.proofs.lemmas.List.FromFn.{fill_by_all}
use Rattle.toml.specs.View.{table_view}
use Rattle.cantus_space.specs.declared.prices.CantusPrices.{CantusPrices}
use Rattle.cantus_space.specs.PricedSheets.{price_in, prices_in}
use Rattle.cantus_space.proofs.entries.prices_in.Goals as goal

pub loop-i-preserved : goal.loop-i-preserved
loop-i-preserved c =
    let entries = table_view c.args.table.now in
    let i = c.loop-i.i in
    let f = λ (k : ℕ). price_in entries (k + 1) in
    let (size, so_far) = c.loop-i.invariant in
    let here : c.price_in.result ≡ f i = c.price_in.ensures in (
      length-set c.loop-i.weights i c.price_in.result ∙ size,
      rw here (fill_by_more f c.loop-i.weights i 0 (omega (arith, size, c.loop-i-test.true)) so_far),
    )

pub returns : goal.returns
unfolding prices_in
returns c =
    let f = λ (i : ℕ). price_in (table_view c.args.table.now) (i + 1) in
    let made : List ℕ → CantusPrices = λ w. record { weights = w } in
    let (size, so_far) = c.loop-i.invariant in
    ap made (fill_by_all f c.loop-i.weights 6 0 size (λ k h. so_far k (omega (arith, h, c.loop-i-test.false))))
