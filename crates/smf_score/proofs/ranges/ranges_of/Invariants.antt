use Rattle.std.proofs.Common.{◌≡◌, ◌++◌, drop}
use Rattle.smf_score.specs.Ranges.{ranges_in}
use Rattle.smf_score.proofs.ranges.ranges_of.Given as goal

-- the ranges so far, and those of the voices that are left, are all
abbrev pub invariant-loop-v : goal.invariant-loop-v
invariant-loop-v l =
    l.lines.items ++ ranges_in l.cantus_voice l.v (drop l.v l.voices) ≡ ranges_in l.cantus_voice 0 l.voices
