use Rattle.std.proofs.Common.{refl, arith}
use Rattle.canon_space.proofs.Children.{root_lives}
use Rattle.canon_space.proofs.space.CanonSpaceSpace.root.Goals as goal

pub returns : goal.returns
returns c = (
  record {
    numbers = refl;
    here = record {
      kept = c.start.ensures.bars;
      live = refl;
      few = omega arith;
      paid = c.start.ensures.paid;
      little = omega (arith, c.start.ensures.paid);
    };
  },
  root_lives c.args.self.now.canon c.args.self.now.sheet,
)
