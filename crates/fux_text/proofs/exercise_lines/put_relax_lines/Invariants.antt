use Rattle.std.proofs.Common.{◌≡◌, ◌++◌, string_bytes, map, drop}
use Rattle.fux_text.specs.Lines.{relax_words}
use Rattle.fux_text.specs.Words.{text_of}
use Rattle.fux_text.proofs.exercise_lines.put_relax_lines.Given as goal

-- what is written so far, and what is left, are what is to be written
abbrev pub invariant-loop-line : goal.invariant-loop-line
invariant-loop-line l = string_bytes l.out ++ text_of (map relax_words (drop l.line-index l.lines))
    ≡ string_bytes l.fn.out ++ text_of (map relax_words l.lines)
