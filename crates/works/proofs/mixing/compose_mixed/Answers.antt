use Rattle.std.proofs.Common.{None}
use Rattle.species_space.specs.Mixed.{exercise_of}
use Rattle.species_space.specs.Trees.{mixed_settings}
use Rattle.works.proofs.ToldLemmas.{of_space}
use Rattle.works.proofs.mixing.compose_mixed.Goals as goal

pub returns : goal.returns
returns c = record {
  narrow = c.in_ok-space.ensures.made.1;
  tells = of_space mixed_settings _ c.args.m.now.ex.now (exercise_of c.args.m.now) c.args.sheet.now None c.args.budget _ _
      c.in_ok-space.ensures.made.0 c.in_ok-told.ensures;
}
