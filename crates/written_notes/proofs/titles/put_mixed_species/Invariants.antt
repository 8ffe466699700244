use Rattle.std.proofs.Common.{◌≡◌, ◌-◌, ◌++◌, string_bytes}
use Rattle.std.specs.List.{flat_map, range_with_len}
use Rattle.written_notes.specs.Titles.{voice_species}
use Rattle.written_notes.proofs.titles.put_mixed_species.Given as goal

-- what is written so far, and the voices that are left, are what is to be written
abbrev pub invariant-loop-v : goal.invariant-loop-v
invariant-loop-v l =
    string_bytes l.out ++ flat_map (voice_species l.ex) (range_with_len l.v (l.ex.voices - l.v))
    ≡ string_bytes l.fn.out ++ flat_map (voice_species l.ex) (range_with_len 0 l.ex.voices)
