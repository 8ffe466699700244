use Rattle.std.proofs.Common.{◌≡◌, ◌≤◌, ◌*◌, ◌-◌, length}
use Rattle.smf_score.specs.Cantus.{bar_pitch, bars_from, cantus_in}
use Rattle.smf_score.proofs.EachLemmas.{with_front}
use Rattle.smf_score.proofs.cantus.cantus_of.Given as goal

-- the pitches so far, and those of the bars that are left, are all
abbrev pub invariant-loop-bar : goal.invariant-loop-bar
invariant-loop-bar l = record {
  read : with_front bar_pitch l.cantus.items (bars_from l.bar (l.bars - l.bar) l.rest) ≡ cantus_in l.bars l.cells;
  long : 8 * (l.bars - l.bar) ≤ length l.rest;
}
