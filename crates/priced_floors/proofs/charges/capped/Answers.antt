use Rattle.std.proofs.Common.{ℕ, arith}
use Rattle.std.proofs.lemmas.List.{length-replicate}
use Rattle.priced_floors.proofs.Voices.{nothing_charged}
use Rattle.priced_floors.proofs.charges.capped.Goals as goal

pub loop-place-init : goal.loop-place-init
loop-place-init c = record {
  low = λ place. omega (arith, nothing_charged 147 place);
  whole = length-replicate {A = ℕ} 147 0;
}
