-- What is no better than one floor is no better than a higher one.
use Rattle.std.proofs.Common.{◌≤◌, ℕ, Option, Some, None, IsSomeAnd, arith}

pub no_better_above : (best : Option ℕ) (own floor : ℕ) → own ≤ floor → IsSomeAnd best (λ value. value ≤ own)
    → IsSomeAnd best (λ value. value ≤ floor)
no_better_above None own floor low h = h
no_better_above (Some value) own floor low h = omega (arith, low, h)
