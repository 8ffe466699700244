use Rattle.std.proofs.Common.{◌≡◌, ◌-◌, ◌*◌, ◌≤◌, ◌++◌, length}
use Rattle.std.specs.List.{flat_map, range_with_len}
use Rattle.written_notes.specs.Sheets.{given_notes, part_notes}
use Rattle.written_notes.proofs.sheet.given_notes.Given as goal

-- the notes so far, and those of the slots that are left, are the notes of the bar
abbrev pub invariant-loop-slot : goal.invariant-loop-slot
invariant-loop-slot l = record {
  few : length l.notes.items ≤ 2 * l.slot;
  made : l.notes.items ++ flat_map (part_notes l.ex l.v l.bar l.cells l.next) (range_with_len l.slot (8 - l.slot))
      ≡ given_notes l.ex l.v l.line l.bar;
}
