use Rattle.std.proofs.Common.{◌≡◌, [], length}
use Rattle.text_lines.specs.Lines.{lines_of}
use Rattle.text_lines.specs.Tables.{many_in}
use Rattle.fux_text.specs.GivenLines.{given_lines_of}
use Rattle.fux_text.proofs.given_lines.given_lines_in.Given as goal

-- reading goes on from here as it does from the beginning
abbrev pub invariant-loop-alloc : goal.invariant-loop-alloc
invariant-loop-alloc l =
    many_in (given_lines_of l.version l.ex) l.lines.items (lines_of l.rest).after (lines_of l.rest).lines
    ≡ many_in (given_lines_of l.version l.ex) [] (lines_of l.text).after (lines_of l.text).lines

abbrev pub decreases-loop-alloc : goal.decreases-loop-alloc
decreases-loop-alloc l = length (lines_of l.rest).lines
