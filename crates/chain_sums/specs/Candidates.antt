-- The columns of a menu that may have a sum, with what it is at least.
use Rattle.std.specs.Prelude.{ℕ, ◌<◌, ◌≤◌, List, [], Option, length, slice_index_or, IsSomeAnd}
use Rattle.std.specs.List.{All, Contains}
use Rattle.std.specs.List.Sorted.{IsNonDecreasingBy}
use Rattle.fux_grid.specs.declared.cell.Cell.{Cell}
use Rattle.chain_sums.specs.declared.candidates.Candidate.{Candidate}
use Rattle.chain_sums.specs.Chains.{Chains, IsKnown}
use Rattle.chain_sums.specs.Rows.{IsSumAt, IsSumOf}

-- a column's sum reaches the bound of its candidate, whatever stands before it; there is no
-- candidate only where there is no sum
abbrev pub ReachesBound : Chains → ℕ → List Cell → Option ℕ → Option Candidate → Type 0
ReachesBound c i d rest candidate =
    (before : Option (List Cell)) (x : ℕ) → IsSumOf c i before d rest x → IsSomeAnd candidate (λ e. e.bound ≤ x)

-- a candidate stands for the column, with a bound that its sum reaches
pub record HasBound (candidates : List Candidate) (k sum : ℕ) : Type 0 where
  pub bound : ℕ
  pub own : ℕ
  pub one : Contains candidates (record { bound = bound; number = k; own = own })
  pub low : bound ≤ sum

-- the first so many columns of a place's menu that have a sum behind some column are among the
-- candidates, each with what it costs at least
pub record AreCandidates (c : Chains) (own : List Cell → Option ℕ) (i : ℕ) (row : List (Option ℕ)) (count : ℕ)
    (candidates : List Candidate) : Type 0 where
  pub within : All (λ e. e.number < count) candidates
  pub known : All (λ e. IsKnown (own (slice_index_or (c.menu i) e.number [])) e.own) candidates
  pub enough : (before : Option (List Cell)) (k sum : ℕ) → k < count → IsSumAt c i before row k sum
      → HasBound candidates k sum

-- all of them are
abbrev pub AreAllCandidates : Chains → (List Cell → Option ℕ) → ℕ → List (Option ℕ) → List Candidate → Type 0
AreAllCandidates c own i row = AreCandidates c own i row (length (c.menu i))

-- they go by their bounds
abbrev pub GoByBounds : List Candidate → Type 0
GoByBounds = IsNonDecreasingBy (λ e. e.bound)
