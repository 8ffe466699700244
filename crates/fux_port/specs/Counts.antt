-- Counts that stand still at their last value, 2^64 - 1.
use Rattle.std.specs.Prelude.{◌≡◌, ℕ, Bool, ◌==◌, ◌+◌, ◌-◌, ◌^◌, ◌<◌, ◌⊎◌, List, Result, Ok, Err, min}
use Rattle.std.specs.List.{list_any}

-- the count after one more
abbrev pub next_count : ℕ → ℕ
next_count count = min (count + 1) (2 ^ 64 - 1)

-- the count after so many more
abbrev pub count_after : ℕ → ℕ → ℕ
count_after count more = min (count + more) (2 ^ 64 - 1)

-- how many bytes a read gave: none where it failed
abbrev pub bytes_given : {E : Type 0} → Result ℕ E → ℕ
bytes_given (Ok count) = count
bytes_given (Err fault) = 0

-- the count rose, or stands at its last value
abbrev pub Rose : ℕ → ℕ → Type 0
Rose old new = (old < new) ⊎ (new ≡ 2 ^ 64 - 1)

-- the number of the next call, after this many calls, is one of these
abbrev pub is_next_in : List ℕ → ℕ → Bool
is_next_in numbers calls = list_any (λ number. number == next_count calls) numbers

-- how many calls failed, and how many bytes were given
pub record Tally : Type 0 where
  pub faults : ℕ
  pub given : ℕ
