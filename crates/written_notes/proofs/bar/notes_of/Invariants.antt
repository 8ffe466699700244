use Rattle.std.proofs.Common.{◌≡◌, ◌-◌, ◌*◌, ◌≤◌, ◌++◌, length}
use Rattle.std.specs.List.{flat_map, range_with_len}
use Rattle.written_notes.specs.Bars.{cells_notes, notes_at}
use Rattle.written_notes.proofs.bar.notes_of.Given as goal

-- the notes so far, and those of the slots that are left, are the notes of the bar
abbrev pub invariant-loop-slot : goal.invariant-loop-slot
invariant-loop-slot l = record {
  few : length l.notes.items ≤ 2 * l.slot;
  made : l.notes.items ++ flat_map (notes_at l.cells l.next) (range_with_len l.slot (8 - l.slot))
      ≡ cells_notes l.cells l.next;
}
