-- What the making of menus keeps.
use Rattle.std.proofs.Common.{◌≡◌, length}
use Rattle.species_space.specs.MixedMenus.{ArePlaces, IsLatest}
use Rattle.species_space.proofs.menus.menus_of.Given as goal

-- what is known of each place so far, of which the last has the last menu
abbrev pub invariant-loop-i : goal.invariant-loop-i
invariant-loop-i l = record {
  counted : length l.places.items ≡ l.i;
  kept : ArePlaces l.ex l.menus.items l.places.items;
  latest : IsLatest l.ex l.i l.menus.items;
}
