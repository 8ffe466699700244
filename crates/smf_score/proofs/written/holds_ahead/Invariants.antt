use Rattle.std.proofs.Common.{◌≡◌, ◌+◌, length}
use Rattle.smf_score.specs.Lines.{holds_ahead}
use Rattle.smf_score.proofs.written.holds_ahead.Given as goal

-- the holds so far, and those ahead, are all
abbrev pub invariant-loop-later : goal.invariant-loop-later
invariant-loop-later l = record {
  value : l.holds + holds_ahead l.rest ≡ holds_ahead l.cells;
  within : l.holds + length l.rest ≡ length l.cells;
}

abbrev pub decreases-loop-later : goal.decreases-loop-later
decreases-loop-later l = length l.rest
