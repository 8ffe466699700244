use Rattle.std.proofs.Common.{◌≡◌}
use Rattle.std.specs.Prelude.{map}
use Rattle.std.specs.List.{range_with_len}
use Rattle.smf_score.specs.Joined.{line_of}
use Rattle.smf_score.proofs.joined.lines_of.Given as goal

-- the lines of the voices so far
abbrev pub invariant-loop-v : goal.invariant-loop-v
invariant-loop-v l = l.lines.items ≡ map (line_of l.lesson l.voices) (range_with_len 0 l.v)
