use Rattle.std.proofs.Common.{◌≡◌}
use Rattle.voice_lines.specs.Lines.{score_of}
use Rattle.voice_lines.proofs.score_of.Given as goal

-- the score of the slots so far
abbrev pub invariant-loop-i : goal.invariant-loop-i
invariant-loop-i l = l.score ≡ score_of l.i l.lines
