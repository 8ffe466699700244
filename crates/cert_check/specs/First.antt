-- The first test that fails.
use Rattle.std.specs.Prelude.{◌≡◌, ◌↔◌, ℕ, ◌<◌, Bool, true, IsTrue, List, Option, Some, None, length, slice_index_or}

-- this is the number of the first test that fails, of so many; none only where each is passed
abbrev pub IsFirstFailing : (ℕ → Type 0) → ℕ → Option ℕ → Type 0
IsFirstFailing passes count None = (n : ℕ) → n < count → passes n
IsFirstFailing passes count (Some first) =
    (first < count) × (passes first → ⊥) × ((n : ℕ) → n < first → passes n)

-- no other answer is that
abbrev pub FirstFailingIsOne : (ℕ → Type 0) → ℕ → Type 0
FirstFailingIsOne passes count = (found other : Option ℕ) → IsFirstFailing passes count found
    → IsFirstFailing passes count other → found ≡ other

-- the answers say which tests are passed, of so many
pub record AreAnswers (passes : ℕ → Type 0) (count : ℕ) (answers : List Bool) : Type 0 where
  pub whole : length answers ≡ count
  pub each : (n : ℕ) → n < count → IsTrue (slice_index_or answers n true) ↔ passes n

-- this is the number of the first answer that is no
abbrev pub IsFirstNo : List Bool → Option ℕ → Type 0
IsFirstNo answers = IsFirstFailing (λ n. IsTrue (slice_index_or answers n true)) (length answers)
