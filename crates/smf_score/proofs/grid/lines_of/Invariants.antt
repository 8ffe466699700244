use Rattle.std.proofs.Common.{◌≡◌, take}
use Rattle.smf_score.specs.Sounding.{lines_of}
use Rattle.smf_score.proofs.grid.lines_of.Given as goal

-- the lines of the voices so far
abbrev pub invariant-loop-notes : goal.invariant-loop-notes
invariant-loop-notes l = l.lines.items ≡ lines_of l.bars (take l.notes-index l.voices)
