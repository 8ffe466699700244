use Rattle.works.proofs.BestLemmas.{told_exactly}
use Rattle.works.proofs.composing.compose.Goals as goal

pub returns-in_ok-found_output-in-Ok : goal.returns-in_ok-found_output-in-Ok
returns-in_ok-found_output-in-Ok g c = record {
  narrow = c.in-Ok.ensures.0;
  tells = rw c.in_ok-found_output-in-Ok.ensures
      (told_exactly c.args.exercise.now c.args.sheet.now c.args.budget c.in-Ok.found c.in-Ok.ensures.1);
}
