use Rattle.std.proofs.Common.{◌≡◌, ℕ, ◌+◌, ◌-◌, false, List, [], drop, get_or, refl, ap, sym, ◌∙◌, arith, ◌||◌}
use Rattle.std.specs.List.{list_any}
use Rattle.std.specs.Str.{bytes_eq}
use Rattle.std.proofs.lemmas.List.{drop_more}
use Rattle.cantus_space.specs.PricedSheets.{is_price_key, price_keys}
use Rattle.cantus_space.proofs.entries.is_price_key.Goals as goal

pub loop-row-init : goal.loop-row-init
unfolding is_price_key
loop-row-init c = refl

pub loop-row-preserved : goal.loop-row-preserved
loop-row-preserved c =
    let key = c.args.key.now in
    let row = c.loop-row.row in
    let among = λ (names : List (List ℕ)). list_any (λ name. bytes_eq name key) names in
    let other : bytes_eq (get_or price_keys (row - 1) []) key ≡ false =
    ap (λ name. bytes_eq name key) (sym c.price_key.ensures) ∙ sym c.eq.ensures ∙ c.if-eq.false in
    let next : row - 1 + 1 ≡ row + 1 - 1 = omega arith in
    ap (λ n. among (drop n price_keys)) (sym next)
    ∙ ap (λ b. b || among (drop (row - 1 + 1) price_keys)) (sym other)
    ∙ ap among (sym (drop_more price_keys (row - 1) [] (omega arith)))
    ∙ c.loop-row.invariant
