use Rattle.std.proofs.Common.{◌≡◌, [], length}
use Rattle.text_lines.specs.Lines.{lines_of}
use Rattle.text_lines.specs.Tables.{many_in}
use Rattle.fux_text.specs.Relaxing.{relax_lines_of}
use Rattle.fux_text.proofs.relaxing.relaxes_in.Given as goal

-- reading goes on from here as it does from the beginning
abbrev pub invariant-loop-rest : goal.invariant-loop-rest
invariant-loop-rest l =
    many_in (relax_lines_of l.ex) l.lines.items (lines_of l.rest).after (lines_of l.rest).lines
    ≡ many_in (relax_lines_of l.ex) [] (lines_of l.text).after (lines_of l.text).lines

abbrev pub decreases-loop-rest : goal.decreases-loop-rest
decreases-loop-rest l = length (lines_of l.rest).lines
