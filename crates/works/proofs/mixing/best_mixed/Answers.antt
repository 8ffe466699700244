use Rattle.works.proofs.MixedBest.{told_mixed}
use Rattle.works.proofs.mixing.best_mixed.Goals as goal

pub returns-in-Ok : goal.returns-in-Ok
returns-in-Ok g c =
    let is = rw c.mixed_as-mixed.ensures.value at c.in-Ok.ensures in
    record {
      narrow = is.0;
      tells = rw c.in_ok-found_output-in-Ok.ensures
          (told_mixed c.args.m.now.ex.now c.args.m.now.species c.args.sheet.now c.args.budget c.in-Ok.found is.1);
    }
