use Rattle.std.proofs.Common.{arith}
use Rattle.species_space.proofs.menus.first_too_wide.Goals as goal

pub returns-then-count-gt-WIDEST-clause-wide : goal.returns-then-count-gt-WIDEST-clause-wide
returns-then-count-gt-WIDEST-clause-wide c = record {
  column = c.loop-i.i;
  bar = c.place_of.ensures.bar;
  slot = c.place_of.ensures.slot;
  within = omega (arith, c.loop-i-test.true);
  width = c.width-count.ensures;
  wide = c.if-count-gt-WIDEST.true;
  first = c.loop-i.invariant;
}
