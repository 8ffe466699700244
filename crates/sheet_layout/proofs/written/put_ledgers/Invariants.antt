use Rattle.std.proofs.Common.{◌≡◌, ◌-◌, ◌++◌}
use Rattle.std.specs.List.{flat_map, range_with_len}
use Rattle.sheet_layout.specs.Notes.{ledger_at, ledgers}
use Rattle.sheet_layout.proofs.written.put_ledgers.Given as goal

-- the lines so far, and those of the spaces that are left, are the lines of the head
abbrev pub invariant-loop-spaces : goal.invariant-loop-spaces
invariant-loop-spaces l =
    l.shapes.items ++ flat_map (ledger_at l.x l.middle l.degree) (range_with_len l.spaces (14 - l.spaces))
    ≡ l.fn.shapes.items ++ ledgers l.x l.middle l.degree
