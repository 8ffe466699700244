-- What the making of the rows keeps.
use Rattle.std.proofs.Common.{◌≡◌, length, vec_capacity}
use Rattle.species_space.specs.Own.{KeepOwnCosts}
use Rattle.species_space.proofs.own.own_rows.Given as goal

-- what is kept of each menu so far, and room for the rest
abbrev pub invariant-loop-i : goal.invariant-loop-i
invariant-loop-i l = record {
  room : vec_capacity l.rows ≡ l.columns;
  counted : length l.rows.items ≡ l.i;
  kept : KeepOwnCosts l.exercise l.sheet l.rows.items;
}
