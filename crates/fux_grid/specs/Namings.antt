-- Species that are named of voices beside those of an exercise.
use Rattle.std.specs.Prelude.{◌≡◌, ℕ, ◌≤◌, List, Option, None, IfSome, length, slice_index_or}

-- the species that is named for a voice
abbrev pub named_for : List (Option ℕ) → ℕ → Option ℕ
named_for named v = slice_index_or named v None

-- each of four voices has a species from 2 to 5, or none that is named
pub record AreNamed (named : List (Option ℕ)) : Type 0 where
  pub four : length named ≡ 4
  pub each : (v : ℕ) → IfSome (named_for named v) (λ species. (2 ≤ species) × (species ≤ 5))
