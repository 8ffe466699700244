-- What a file of notes alone doesn't tell.
use Rattle.std.specs.Prelude.{◌≢◌, ◌≤◌}
use Rattle.fux_grid.specs.declared.exercise.Head.{Head}

-- a head that an exercise may have
pub record IsHead (head : Head) : Type 0 where
  pub least_species : 1 ≤ head.species
  pub most_species : head.species ≤ 5
  pub differ : head.species_voice ≢ head.cantus_voice
