use Rattle.std.proofs.Common.{◌≡◌, ◌++◌, drop}
use Rattle.std.specs.List.{flat_map}
use Rattle.text_faults.specs.Explained.{explained_fault}
use Rattle.text_faults.proofs.explained.put_faults.Given as goal

-- what is written so far, and what is left, are what is to be written
abbrev pub invariant-loop-fault : goal.invariant-loop-fault
invariant-loop-fault l =
    l.out.items ++ flat_map (explained_fault l.name l.bytes) (drop l.fault-index l.faults)
    ≡ l.fn.out.items ++ flat_map (explained_fault l.name l.bytes) l.faults
