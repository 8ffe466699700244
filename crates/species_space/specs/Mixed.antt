-- Exercises with a species for each voice.
use Rattle.fux_grid.specs.declared.exercise.Exercise.{Exercise}
use Rattle.fux_grid.specs.Exercises.{AreSpecies, IsValid, as_mixed}
use Rattle.species_space.specs.declared.mixed.Mixed.{Mixed}

-- the exercise is valid, and these may be the species of its voices
pub record IsMixed (m : Mixed) : Type 0 where
  pub valid : IsValid m.ex.now
  pub species : AreSpecies m.ex.now m.species

-- the exercise whose voices have these species: its menus, rules and tolls are those of the mixed
-- one
abbrev pub exercise_of : Mixed → Exercise
exercise_of m = as_mixed m.ex.now m.species
