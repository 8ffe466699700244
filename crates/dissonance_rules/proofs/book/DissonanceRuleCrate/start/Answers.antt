use Rattle.std.proofs.Common.{ℕ, []}
use Rattle.fux_grid.specs.Exercises.{species_in}
use Rattle.rule_law.proofs.FourLemmas.{each_of_four}
use Rattle.dissonance_rules.specs.declared.starts.LatestStarts.{LatestStarts}
use Rattle.dissonance_rules.specs.Starts.{IsStartsOf}
use Rattle.dissonance_rules.proofs.book.DissonanceRuleCrate.start.Goals as goal

pub returns : goal.returns
returns c = λ ex.
    each_of_four (λ (v : ℕ) (kept : LatestStarts). IsStartsOf (species_in ex v) [] v kept) _ _ _ _
    (c.no_starts.ensures (species_in ex 0) 0) (c.no_starts-2.ensures (species_in ex 1) 1)
    (c.no_starts-3.ensures (species_in ex 2) 2) (c.no_starts-4.ensures (species_in ex 3) 3)
