use Rattle.std.proofs.Common.{◌≡◌, ℕ, Some, arith, slice_get, ap, subst, sym, ◌∙◌}
use Rattle.std.proofs.Common.{⊎_elim}
use Rattle.std.proofs.lemmas.Bool.{cases_lt}
use Rattle.std.proofs.lemmas.Option.{slice_get_within}
use Rattle.price_check.specs.declared.priced_list.PricedList.{PricedList}
use Rattle.price_check.specs.Woven.{keeps_number}
use Rattle.price_check.proofs.Webs.{read_there}
use Rattle.price_check.proofs.woven.first_with.Goals as goal

pub returns-then-keeps_number-number-clause-there : goal.returns-then-keeps_number-number-clause-there
returns-then-keeps_number-number-clause-there c = λ it e.
    let own = c.index-lists-k.result in
    let same : own ≡ it = read_there c.args.lists.now c.loop-k.k own it c.index-lists-k.is e in
    let number : keeps_number own.space.keeps ≡ c.args.number = ap keeps_number own.kept
    ∙ ap (λ (l : PricedList). keeps_number l.keeps) c.index-lists-k.is ∙ sym c.keeps_number.ensures.value ∙ c.if-keeps_number-number.true in
    subst (λ (l : PricedList). keeps_number l.space.keeps ≡ c.args.number) same number

pub loop-k-preserved : goal.loop-k-preserved
loop-k-preserved c = λ k it within e. ⊎_elim
    (λ earlier. c.loop-k.invariant k it earlier e)
    (λ after.
    let own = c.index-lists-k.result in
    let here : k ≡ c.loop-k.k = omega (arith, within, after) in
    let there = subst (λ (n : ℕ). slice_get c.args.lists.now n ≡ Some it) here e in
    let same : own ≡ it = read_there c.args.lists.now c.loop-k.k own it c.index-lists-k.is there in
    λ number. c.if-keeps_number-number.false (c.keeps_number.ensures.value ∙ sym (ap (λ (l : PricedList). keeps_number l.keeps) c.index-lists-k.is)
    ∙ sym (ap keeps_number own.kept)
    ∙ ap (λ (l : PricedList). keeps_number l.space.keeps) same ∙ number))
    (cases_lt k c.loop-k.k)

pub returns-clause-none : goal.returns-clause-none
returns-clause-none c = λ none k it e.
    c.loop-k.invariant k it (omega (arith, slice_get_within c.args.lists.now k it e, c.loop-k-test.false)) e
