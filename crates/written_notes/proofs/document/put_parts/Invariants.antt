use Rattle.std.proofs.Common.{◌≡◌, ◌++◌, reverse, string_bytes}
use Rattle.std.specs.List.{flat_map, range_with_len}
use Rattle.written_notes.specs.Documents.{part_of, parts}
use Rattle.written_notes.proofs.document.put_parts.Given as goal

-- what is written so far, and the parts that are left, are what is to be written
abbrev pub invariant-loop-voice : goal.invariant-loop-voice
invariant-loop-voice l =
    string_bytes l.out ++ flat_map (part_of l.ex l.marks) (reverse (range_with_len 0 l.voice))
    ≡ string_bytes l.fn.out ++ parts l.ex l.marks
