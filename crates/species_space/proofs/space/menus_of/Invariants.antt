-- What the making of menus keeps.
use Rattle.std.proofs.Common.{◌≡◌, length, vec_capacity}
use Rattle.species_space.specs.Task.{AreMenus}
use Rattle.species_space.proofs.space.menus_of.Given as goal

-- what is known of each menu so far, and room for the rest
abbrev pub invariant-loop-i : goal.invariant-loop-i
invariant-loop-i l = record {
  room : vec_capacity l.menus ≡ l.columns;
  counted : length l.menus.items ≡ l.i;
  kept : AreMenus l.exercise l.menus.items;
}
