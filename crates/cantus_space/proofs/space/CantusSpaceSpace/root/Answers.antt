use Rattle.std.proofs.Common.{◌≤◌, refl, subst, arith}
use Rattle.cantus_space.specs.declared.plan.CantusPlan.{CantusPlan}
use Rattle.cantus_space.proofs.Children.{root_lives}
use Rattle.cantus_space.proofs.space.CantusSpaceSpace.root.Goals as goal

pub returns : goal.returns
returns c = (
  record {
    numbers = refl;
    here = record {
      kept = c.start.ensures.pitches;
      live = refl;
      few = omega arith;
      paid = c.start.ensures.paid;
      little = omega (arith, c.start.ensures.paid);
      charged = c.start.ensures.charged;
      little_charged = omega (arith, c.start.ensures.charged);
    };
  },
  root_lives c.args.self.now
      (subst (λ (plan : CantusPlan). 3 ≤ plan.bars) c.self.view_is c.self.invariant.valid.fewest_bars),
)
