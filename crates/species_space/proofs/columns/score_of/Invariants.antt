-- What the laying out of a path keeps.
use Rattle.std.proofs.Common.{◌≡◌, take}
use Rattle.species_space.specs.Paths.{prefix_at}
use Rattle.species_space.proofs.columns.score_of.Given as goal

-- the columns so far are those of the path so far
abbrev pub invariant-loop-i : goal.invariant-loop-i
invariant-loop-i g l = record {
  voices : l.score.voices ≡ (g.S.MenuColumns.exercise l.space).voices;
  columns : l.score.columns ≡ prefix_at (g.S.MenuColumns.exercise l.space) (take l.i l.path);
}
