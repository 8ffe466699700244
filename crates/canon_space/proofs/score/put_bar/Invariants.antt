-- What the laying out of a bar keeps.
use Rattle.std.proofs.Common.{◌≡◌, ◌++◌, ◌∷◌, []}
use Rattle.canon_space.proofs.ScoreSteps.{held_after}
use Rattle.canon_space.proofs.score.put_bar.Given as goal

-- the bar's columns so far are its first one and so many held ones
abbrev pub invariant-loop : goal.invariant-loop
invariant-loop l = record {
  voices : l.score.voices ≡ 2;
  columns : l.score.columns ≡ held_after (l.fn.score.columns ++ (l.lower ∷ l.upper ∷ []) ∷ []) l.lower l.upper l.counter;
}
