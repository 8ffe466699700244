use Rattle.std.proofs.Common.{◌≡◌, ◌++◌, reverse, string_bytes}
use Rattle.std.specs.List.{flat_map, range_with_len}
use Rattle.written_notes.specs.Titles.{part_name, part_names}
use Rattle.written_notes.proofs.titles.put_names.Given as goal

-- what is written so far, and the names that are left, are what is to be written
abbrev pub invariant-loop-v : goal.invariant-loop-v
invariant-loop-v l =
    string_bytes l.out ++ flat_map (part_name l.ex) (reverse (range_with_len 0 l.v))
    ≡ string_bytes l.fn.out ++ part_names l.ex
