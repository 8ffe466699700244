use Rattle.std.proofs.Common.{◌≡◌, take, true}
use Rattle.std.specs.List.{list_all}
use Rattle.smf_score.specs.Cantus.{holds}
use Rattle.smf_score.proofs.cantus.is_held.Given as goal

-- the pitch was held so far
abbrev pub invariant-loop-cell : goal.invariant-loop-cell
invariant-loop-cell l = list_all (holds l.pitch) (take l.cell-index l.cells) ≡ true
