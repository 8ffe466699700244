-- The sum over the free voices from one on.
use Rattle.std.proofs.Common.{◌≡◌, ℕ, suc, ◌+◌, ◌-◌, ◌<◌, Bool, true, false, List, ◌∷◌, ap, sym, ◌∙◌, arith}
use Rattle.std.specs.Prelude.{if◌then◌else◌}
use Rattle.std.specs.List.{filter, range_with_len, sum_by}
use Rattle.std.proofs.lemmas.List.Sums.{sum_by-cons}

-- of the numbers that are kept from one on, the first is that one, if it's kept
sum_kept-more : (f : ℕ → ℕ) (keep : ℕ → Bool) (v n : ℕ) → v < n → sum_by f (filter keep (range_with_len v (n - v)))
    ≡ (if keep v then f v else 0) + sum_by f (filter keep (range_with_len (v + 1) (n - (v + 1))))
sum_kept-more f keep v n h =
    let more : n - v ≡ suc (n - (v + 1)) = omega (arith, h) in
    ap (λ k. sum_by f (filter keep (range_with_len v k))) more ∙ at (keep v)
  where
    rest : List ℕ
    rest = filter keep (range_with_len (v + 1) (n - (v + 1)))

    at : (b : Bool) → sum_by f (if b then v ∷ rest else rest) ≡ (if b then f v else 0) + sum_by f rest
    at true = sum_by-cons f v rest
    at false = omega arith

-- so one term more is added to the sum so far
pub sum_kept-on : (f : ℕ → ℕ) (keep : ℕ → Bool) (v n sum term total : ℕ) → v < n → term ≡ (if keep v then f v else 0)
    → sum + sum_by f (filter keep (range_with_len v (n - v))) ≡ total
    → sum + term + sum_by f (filter keep (range_with_len (v + 1) (n - (v + 1)))) ≡ total
sum_kept-on f keep v n sum term total h here before =
    on (if keep v then f v else 0) (sum_by f (filter keep (range_with_len (v + 1) (n - (v + 1))))) here
    (ap (λ k. sum + k) (sym (sum_kept-more f keep v n h)) ∙ before)
  where
    on : (x rest : ℕ) → term ≡ x → sum + (x + rest) ≡ total → sum + term + rest ≡ total
    on x rest e k = omega arith
