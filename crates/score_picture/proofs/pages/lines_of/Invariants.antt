use Rattle.std.proofs.Common.{◌≡◌, map}
use Rattle.std.specs.List.{range_with_len}
use Rattle.written_notes.specs.Lines.{line_of}
use Rattle.score_picture.proofs.pages.lines_of.Given as goal

-- the lines so far
abbrev pub invariant-loop-voice : goal.invariant-loop-voice
invariant-loop-voice l = l.lines.items ≡ map (line_of l.ex) (range_with_len 0 l.voice)
