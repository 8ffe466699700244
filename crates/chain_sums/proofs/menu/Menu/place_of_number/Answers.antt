use Rattle.std.proofs.Common.{◌≡◌, ◌⊎◌, inl, inr, ◌<◌, ◌≤◌, List, ℕ, Ok, Err, length, get_or, map, ap, sym, ◌∙◌, subst, arith}
use Rattle.std.proofs.lemmas.Bool.{cases_lt}
use Rattle.std.proofs.lemmas.List.{get_or_default, length-map}
use Rattle.std.proofs.lemmas.List.Sorted.{searched}
use Rattle.chain_sums.specs.Menus.{IsRising, columns_of}
use Rattle.chain_sums.specs.Packed.{packed}
use Rattle.chain_sums.proofs.MenuLemmas.{number_found, number_there}
use Rattle.chain_sums.proofs.menu.Menu.place_of_number.Goals as goal

pub returns-then-index-number : goal.returns-then-index-number
returns-then-index-number c = λ d same voices is there.
    let menu = c.args.self.now in
    let within : c.args.likely < length menu.numbers.items = omega
    (arith, c.if-likely-len.true, c.len.ensures, menu.numbers.ok.0) in
    number_found menu voices c.args.likely d is there within
    (get_or_default menu.numbers.items c.args.likely 0 c.index.result.now within ∙ sym c.index.ensures
    ∙ c.if-index-number.true ∙ sym same)

pub returns-in-Ok : goal.returns-in-Ok
returns-in-Ok c = λ d same voices is there.
    let menu = c.args.self.now in
    let rising : IsRising c.deref.result.now = subst IsRising (sym c.deref.ensures.value) is.rising in
    let found : (c.in-Ok.k < length c.deref.result.now) × (get_or c.deref.result.now c.in-Ok.k 0 ≡ c.args.number) =
    searched c.deref.result.now c.args.number (Ok c.in-Ok.k) c.in-Ok.ensures.position rising in
    number_found menu voices c.in-Ok.k d is there (omega (arith, found.0, ap length c.deref.ensures.value))
    (ap (λ xs. get_or xs c.in-Ok.k 0) (sym c.deref.ensures.value) ∙ found.1 ∙ sym same)

not_there : (numbers : List ℕ) (x i k : ℕ) → ((k : ℕ) → k < i → get_or numbers k 0 < x)
    → ((k : ℕ) → i ≤ k → k < length numbers → x < get_or numbers k 0)
    → k < length numbers → get_or numbers k 0 ≡ x → ⊥
not_there numbers x i k below above within e = by (cases_lt k i)
  where
    by : (k < i) ⊎ (i ≤ k) → ⊥
    by (inl h) = absurd (omega (arith, below k h))
    by (inr h) = absurd (omega (arith, above k h within))

pub returns-in-Err : goal.returns-in-Err
returns-in-Err c = λ d same voices is there.
    let columns = columns_of c.args.self.now in
    let numbers : c.deref.result.now ≡ map packed columns = c.deref.ensures.value ∙ is.numbers in
    let rising : IsRising c.deref.result.now = subst IsRising (sym c.deref.ensures.value) is.rising in
    let found : (c.in-Err.field-0 ≤ length c.deref.result.now)
    × ((k : ℕ) → k < c.in-Err.field-0 → get_or c.deref.result.now k 0 < c.args.number)
    × ((k : ℕ) → c.in-Err.field-0 ≤ k → k < length c.deref.result.now
    → c.args.number < get_or c.deref.result.now k 0) =
    searched c.deref.result.now c.args.number (Err c.in-Err.field-0) c.in-Err.ensures.position rising in
    let at = number_there columns d there in
    not_there c.deref.result.now c.args.number c.in-Err.field-0 at.0 found.1 found.2
    (omega (arith, at.1, ap length numbers, length-map columns packed))
    (ap (λ xs. get_or xs at.0 0) numbers ∙ at.2 ∙ same)
