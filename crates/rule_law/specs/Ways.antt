-- Rules of a free voice and another one. Two free voices can be named in two ways.
use Rattle.std.specs.Prelude.{ℕ, Bool, not, ◌&&◌, ◌||◌}
use Rattle.fux_grid.specs.declared.exercise.Exercise.{Exercise}
use Rattle.rule_law.specs.Voices.{is_free, on_pair}

-- the test holds of a free voice and another one, where the two are named in one way or the other
abbrev pub holds_some_way : Exercise → (ℕ → ℕ → Bool) → ℕ → ℕ → Bool
holds_some_way ex test v w = (is_free ex v && test v w) || (is_free ex w && test w v)

-- the same of the two voices of a set
abbrev pub on_some_way : Exercise → (ℕ → ℕ → Bool) → ℕ → Bool
on_some_way ex test = on_pair ex (holds_some_way ex test)

-- the test holds in each way to name a free voice of the set and the other one: in none does it
-- fail
abbrev pub on_each_way : Exercise → (ℕ → ℕ → Bool) → ℕ → Bool
on_each_way ex test voices = not (on_some_way ex (λ v w. not (test v w)) voices)
