-- Which rules are asked: those that no lawful setting breaks anywhere.
use Rattle.std.specs.Prelude.{ℕ, ◌==◌, Bool, not}
use Rattle.std.specs.List.{list_any}
use Rattle.fux_grid.specs.declared.exercise.Exercise.{Exercise}

-- some relax line of the exercise is of the rule, for whatever voices and bars
abbrev pub is_relaxed : Exercise → ℕ → Bool
is_relaxed ex rule = list_any (λ line. line.rule == rule) ex.relax

-- no line relaxes the rule
abbrev pub is_asked : Exercise → ℕ → Bool
is_asked ex rule = not (is_relaxed ex rule)
