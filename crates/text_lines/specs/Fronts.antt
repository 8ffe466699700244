-- How far bytes go on as the front of some text.
use Rattle.std.specs.Prelude.{ℕ, ◌≤◌, List, ◌++◌, length, take}

-- a text begins with these bytes
abbrev pub Begins : (List ℕ → Type 0) → List ℕ → Type 0
Begins IsText front = (rest : List ℕ) × IsText (front ++ rest)

-- so many of the bytes are the longest front of them by which a text goes on
pub record LongestFront (IsText : List ℕ → Type 0) (bytes : List ℕ) (at : ℕ) : Type 0 where
  pub within : at ≤ length bytes
  pub begins : Begins IsText (take at bytes)
  pub longest : (n : ℕ) → n ≤ length bytes → Begins IsText (take n bytes) → n ≤ at
