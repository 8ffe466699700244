-- The blocks of the menus of an exercise.
use Rattle.std.specs.Prelude.{◌≡◌, ℕ, ◌<◌, List, length, slice_index_or}
use Rattle.fux_grid.specs.declared.exercise.Exercise.{Exercise}
use Rattle.fux_grid.specs.Exercises.{columns_in}
use Rattle.fux_grid.specs.Menus.{menu_of}
use Rattle.species_space.specs.Blocks.{AreBlocksOf}
use Rattle.species_space.specs.declared.blocks.Blocks.{Blocks}

-- these are the blocks of the menus of the first places
abbrev pub AreFirstBlocks : Exercise → List Blocks → Type 0
AreFirstBlocks ex blocks = (i : ℕ) (d : Blocks) → i < length blocks → AreBlocksOf (menu_of ex i) (slice_index_or blocks i d)

-- and those of all places
pub record AreAllBlocks (ex : Exercise) (blocks : List Blocks) : Type 0 where
  pub counted : length blocks ≡ columns_in ex
  pub kept : AreFirstBlocks ex blocks
