-- What is known of every menu.
use Rattle.std.specs.Prelude.{ℕ}
use Rattle.fux_grid.specs.declared.exercise.Exercise.{Exercise}
use Rattle.fux_grid.proofs.MenuLemmas.{menu_of-contains, menu_of-ascends}
use Rattle.species_space.specs.Leaves.{IsExactMenu}

pub menus_are_exact : (ex : Exercise) (i : ℕ) → IsExactMenu ex i
menus_are_exact ex i = record {
  only = λ col. (menu_of-contains ex i col).0;
  each = λ col. (menu_of-contains ex i col).1;
  ascends = menu_of-ascends ex i;
}
