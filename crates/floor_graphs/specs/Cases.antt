-- The least sums of several cases.
use Rattle.std.specs.Prelude.{ℕ, zero, suc, List, Option, None}
use Rattle.floor_graphs.specs.Numbers.{lesser_of}

-- the least of the sums of the first cases; none where none of them has one
abbrev pub least_below : (ℕ → Option ℕ) → ℕ → Option ℕ
least_below sum zero = None
least_below sum (suc count) = lesser_of (least_below sum count) (sum count)

-- the same of a path
abbrev pub least_of_cases : (ℕ → List ℕ → Option ℕ) → ℕ → List ℕ → Option ℕ
least_of_cases sum count path = least_below (λ k. sum k path) count
