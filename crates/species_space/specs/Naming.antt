-- Voices whose species are named beside the exercise's.
use Rattle.std.specs.Prelude.{◌≡◌, ℕ, ◌<◌, ◌≤◌, ◌⊎◌, List, [], ◌∷◌, Option, IsSome, map, unwrap_or}
use Rattle.fux_grid.specs.declared.exercise.Exercise.{Exercise}
use Rattle.fux_grid.specs.Exercises.{IsFree, species_in}
use Rattle.fux_grid.specs.Namings.{named_for}

-- a voice is named that may not be: it isn't free, or the exercise itself says its species
pub record IsMisnamed (ex : Exercise) (named : List (Option ℕ)) (v : ℕ) : Type 0 where
  pub is_named : IsSome (named_for named v)
  pub wrong : (IsFree ex v → ⊥) ⊎ (v ≡ ex.species_voice)

-- no voice is
abbrev pub AreFreelyNamed : Exercise → List (Option ℕ) → Type 0
AreFreelyNamed ex named = (v : ℕ) → IsMisnamed ex named v → ⊥

-- the lowest voice that is
pub record IsFirstMisnamed (ex : Exercise) (named : List (Option ℕ)) (v : ℕ) : Type 0 where
  pub misnamed : IsMisnamed ex named v
  pub first : (lower : ℕ) → lower < v → IsMisnamed ex named lower → ⊥

-- the species of a voice where some are named: the others keep the exercise's
abbrev pub species_with : Exercise → List (Option ℕ) → ℕ → ℕ
species_with ex named v = unwrap_or (named_for named v) (species_in ex v)

-- those of all voices
abbrev pub all_species_with : Exercise → List (Option ℕ) → List ℕ
all_species_with ex named = map (species_with ex named) (0 ∷ 1 ∷ 2 ∷ 3 ∷ [])
