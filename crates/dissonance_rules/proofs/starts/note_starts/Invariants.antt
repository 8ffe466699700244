use Rattle.std.proofs.Common.{◌≡◌, ◌∷◌, ◌++◌, [], List, length}
use Rattle.fux_grid.specs.declared.cell.Cell.{Cell}
use Rattle.fux_grid.specs.Exercises.{species_in}
use Rattle.rule_law.proofs.FourLemmas.{AreBetween}
use Rattle.dissonance_rules.specs.Starts.{AreStartsOf, IsStartsOf}
use Rattle.dissonance_rules.proofs.starts.note_starts.Given as goal

abbrev pub invariant-loop-v : goal.invariant-loop-v
invariant-loop-v l = record {
  long : length l.voices ≡ 4;
  each :
      (p : List (List Cell)) → length p ≡ l.i → AreStartsOf l.ex p l.initial.voices
      → AreBetween (λ v starts. IsStartsOf (species_in l.ex v) (p ++ l.column ∷ []) v starts)
      (λ v starts. IsStartsOf (species_in l.ex v) p v starts) l.v l.voices;
}
