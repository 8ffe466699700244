use Rattle.std.proofs.Common.{◌≡◌, ◌++◌, drop}
use Rattle.std.specs.List.{flat_map}
use Rattle.text_faults.specs.Written.{bytes_in}
use Rattle.text_faults.proofs.written.piece_of.Given as goal

-- the bytes so far, and those of what is left, are all
abbrev pub invariant-loop-byte : goal.invariant-loop-byte
invariant-loop-byte l =
    l.out.items ++ flat_map (bytes_in l.piece) (drop l.byte-index l.name) ≡ flat_map (bytes_in l.piece) l.name
