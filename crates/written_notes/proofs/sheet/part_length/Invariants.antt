use Rattle.std.proofs.Common.{◌≡◌, ◌+◌, ◌-◌, not}
use Rattle.std.specs.List.{prefix_len, range_with_len}
use Rattle.written_notes.specs.Sheets.{part_begins, part_length}
use Rattle.written_notes.proofs.sheet.part_length.Given as goal

-- no part begins at the slots so far
abbrev pub invariant-loop-next : goal.invariant-loop-next
invariant-loop-next l =
    (l.next - l.slot)
    + prefix_len (λ k. not (part_begins l.ex l.v l.bar l.cells k)) (range_with_len l.next (8 - l.next))
    ≡ part_length l.ex l.v l.bar l.cells l.slot
