-- The items of a list that is owned or lent.
use Rattle.std.specs.Prelude.{List}
use Rattle.fux_pitch.specs.declared.any_list.Items.{Items}
use Rattle.fux_pitch.specs.declared.any_list.Items.TheVariants.{Owned, Lent}

abbrev pub items_of : {T : Type 0} → Items T → List T
items_of (Owned v) = v.items
items_of (Lent s) = s.now
