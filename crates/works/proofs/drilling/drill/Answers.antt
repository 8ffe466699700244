use Rattle.std.proofs.Common.{ℕ, Bool, true, false}
use Rattle.fux_grid.specs.declared.exercise.Exercise.{Exercise}
use Rattle.works.specs.declared.searching.Found.{Found}
use Rattle.works.specs.declared.work.Output.{Output}
use Rattle.works.specs.Drilled.{HasDrillLines, IsDrillFound}
use Rattle.works.proofs.drilling.drill.Goals as goal

-- what is told of each way is told of the one that was taken
told : (by_sharper : Bool) (number : ℕ) (ex : Exercise) (found : Found) (output : Output)
    → (IsDrillFound false ex found → HasDrillLines number false ex output)
    → (IsDrillFound true ex found → HasDrillLines number true ex output)
    → IsDrillFound by_sharper ex found → HasDrillLines number by_sharper ex output
told true number ex found output usual sharp is_found = sharp is_found
told false number ex found output usual sharp is_found = usual is_found

pub returns-in-Ok : goal.returns-in-Ok
returns-in-Ok g c = record {
  exercise = c.in_ok-exercise.exercise;
  drilled = c.in_ok-exercise.ensures;
  narrow = c.in-Ok.ensures.0;
  lines = told c.args.by_sharper c.args.number c.in_ok-exercise.exercise c.in-Ok.found _
      c.in_ok-drill_output-in-Ok.ensures.usual c.in_ok-drill_output-in-Ok.ensures.sharp c.in-Ok.ensures.1;
}
