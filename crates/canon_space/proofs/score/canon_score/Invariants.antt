-- What the laying out of a canon keeps.
use Rattle.std.proofs.Common.{◌≡◌, take}
use Rattle.canon_space.specs.Paths.{bars_at}
use Rattle.canon_space.specs.Rules.{columns_of}
use Rattle.canon_space.proofs.score.canon_score.Given as goal

-- the columns so far are those of the path so far
abbrev pub invariant-loop-k : goal.invariant-loop-k
invariant-loop-k l = record {
  voices : l.score.voices ≡ 2;
  columns : l.score.columns ≡ columns_of (bars_at (take l.k-index l.path));
}
