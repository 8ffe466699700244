use Rattle.std.proofs.Common.{◌≡◌, ◌++◌, string_bytes, map, drop}
use Rattle.fux_text.specs.Lines.{given_words}
use Rattle.fux_text.specs.Words.{text_of}
use Rattle.fux_text.proofs.given_lines.put_given_lines.Given as goal

-- what is written so far, and what is left, are what is to be written
abbrev pub invariant-loop-line : goal.invariant-loop-line
invariant-loop-line l = string_bytes l.out ++ text_of (map given_words (drop l.line-index l.lines))
    ≡ string_bytes l.fn.out ++ text_of (map given_words l.lines)
