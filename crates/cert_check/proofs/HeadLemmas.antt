-- What holds below a number and at it holds below the next one (`below_more`).
use Rattle.std.proofs.Common.{◌≡◌, ◌⊎◌, inl, inr, ℕ, ◌+◌, ◌<◌, ◌≤◌, subst, arith}
use Rattle.std.proofs.lemmas.Bool.{cases_lt}

pub below_more : (P : ℕ → Type 0) (n : ℕ) → ((j : ℕ) → j < n → P j) → P n → (j : ℕ) → j < n + 1 → P j
below_more P n before last j h = at (cases_lt j n)
  where
    at : (j < n) ⊎ (n ≤ j) → P j
    at (inl lt) = before j lt
    at (inr le) = let same : n ≡ j = omega (arith, h) in subst P same last
