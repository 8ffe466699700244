use Rattle.std.proofs.Common.{◌≡◌, ◌≤◌, ◌<◌, ◌+◌, ℕ, false}
use Rattle.rule_law.specs.Bars.{begins_bar}
use Rattle.rule_law.specs.Rulebooks.{IsAmong}
use Rattle.dissonance_rules.specs.Starts.{IsTelling}
use Rattle.dissonance_rules.proofs.told.told_places.Given as goal

abbrev pub invariant-loop-v : goal.invariant-loop-v
invariant-loop-v l = record {
  from : l.first ≤ l.places.first;
  to : l.places.first + l.places.count ≤ l.last;
  told :
      (w i : ℕ) → w < l.v → IsTelling l.ex l.voices l.last i w → l.first ≤ i → i < l.last → begins_bar i ≡ false
      → IsAmong l.places.first l.places.count i;
}
