-- What the reading of pitches keeps.
use Rattle.std.proofs.Common.{◌≡◌, reverse, take}
use Rattle.cantus_space.specs.Known.{IsKnownOf}
use Rattle.cantus_space.specs.Charges.{charges_of_notes}
use Rattle.cantus_space.proofs.bill.bill_of.Given as goal

-- the node is known of the pitches so far, and what they pay was told
abbrev pub invariant-loop-i : goal.invariant-loop-i
invariant-loop-i l = record {
  known : IsKnownOf l.space (reverse (take l.i l.cantus)) l.node;
  made : l.charges.items ≡ charges_of_notes l.sheet l.prices (reverse (take l.i l.cantus));
}
