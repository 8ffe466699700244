use Rattle.std.proofs.Common.{Some}
use Rattle.species_space.specs.Trees.{settings}
use Rattle.works.proofs.ToldLemmas.{of_space}
use Rattle.works.proofs.numbering.compose_nth.Goals as goal

pub returns : goal.returns
returns g c = record {
  narrow = c.in_ok-space.ensures.made.1;
  tells = of_space settings _ c.args.exercise.now c.args.exercise.now c.args.sheet.now (Some c.args.before) c.args.budget _ _
      c.in_ok-space.ensures.made.0 c.in_ok-told.ensures;
}
