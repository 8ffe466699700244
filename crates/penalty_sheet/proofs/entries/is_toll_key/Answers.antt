use Rattle.std.proofs.Common.{◌≡◌, ℕ, ◌+◌, ◌-◌, false, List, [], drop, get_or, refl, ap, sym, ◌∙◌, arith, ◌||◌}
use Rattle.std.specs.List.{list_any}
use Rattle.std.specs.Str.{bytes_eq}
use Rattle.std.proofs.lemmas.List.{drop_more}
use Rattle.penalty_sheet.specs.Sheets.{is_toll_key, toll_keys}
use Rattle.penalty_sheet.proofs.entries.is_toll_key.Goals as goal

pub loop-toll-init : goal.loop-toll-init
unfolding is_toll_key
loop-toll-init c = refl

pub loop-toll-preserved : goal.loop-toll-preserved
loop-toll-preserved c =
    let key = c.args.key.now in
    let toll = c.loop-toll.toll in
    let among = λ (names : List (List ℕ)). list_any (λ name. bytes_eq name key) names in
    let other : bytes_eq (get_or toll_keys (toll - 1) []) key ≡ false =
    ap (λ name. bytes_eq name key) (sym c.toll_key.ensures) ∙ sym c.eq.ensures ∙ c.if-eq.false in
    let next : toll - 1 + 1 ≡ toll + 1 - 1 = omega arith in
    ap (λ n. among (drop n toll_keys)) (sym next)
    ∙ ap (λ b. b || among (drop (toll - 1 + 1) toll_keys)) (sym other)
    ∙ ap among (sym (drop_more toll_keys (toll - 1) [] (omega arith)))
    ∙ c.loop-toll.invariant
