use Rattle.std.proofs.Common.{arith}
use Rattle.std.specs.Prelude.{◌+◌}
use Rattle.dissonance_rules.specs.Passing.{notes_needed}
use Rattle.dissonance_rules.proofs.LatestNotes.{none-started}
use Rattle.dissonance_rules.proofs.starts.no_starts.Goals as goal

pub returns : goal.returns
returns c = λ species v. record {
  latest = none-started v 1 (omega arith);
  second = none-started v 2 (omega arith);
  told = none-started v (notes_needed species + 1) (omega arith);
}
