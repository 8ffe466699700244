-- What is paid out of a purse.
use Rattle.std.proofs.Common.{◌≡◌, ℕ, ◌+◌, ◌-◌, List, subst, arith}
use Rattle.tree_search.specs.Walks.{Exactly, HasOpened}

-- what a part of a purse pays for, the purse pays for
pub opened_of_part : (Kind : List ℕ → Type 0) (old new part left : ℕ) → new + part ≡ old + left
    → HasOpened Kind part left → HasOpened Kind old new
opened_of_part Kind old new part left paid opened =
    let same : part - left ≡ old - new = omega (arith, paid, opened.0) in
    (omega (arith, paid, opened.0), subst (λ (n : ℕ). Exactly Kind n) same opened.1)
