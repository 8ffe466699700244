use Rattle.std.proofs.Common.{◌≡◌, ◌-◌, ◌++◌, string_bytes}
use Rattle.std.specs.List.{flat_map, range_with_len}
use Rattle.written_notes.specs.Measures.{measure, measures}
use Rattle.written_notes.proofs.measures.put_measures.Given as goal

-- what is written so far, and the bars that are left, are what is to be written
abbrev pub invariant-loop-bar : goal.invariant-loop-bar
invariant-loop-bar l =
    string_bytes l.out ++ flat_map (measure l.ex l.marks l.voice l.line) (range_with_len l.bar (l.ex.bars - l.bar))
    ≡ string_bytes l.fn.out ++ measures l.ex l.marks l.voice l.line
