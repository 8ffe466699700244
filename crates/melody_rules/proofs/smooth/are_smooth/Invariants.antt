use Rattle.std.proofs.Common.{◌≡◌, false, List}
use Rattle.std.specs.List.{list_any, range_with_len}
use Rattle.fux_grid.specs.declared.cell.Cell.{Cell}
use Rattle.melody_rules.specs.Notes.{AreNotesOf}
use Rattle.melody_rules.specs.Smooth.{is_rough_at}
use Rattle.melody_rules.proofs.smooth.are_smooth.Given as goal

abbrev pub invariant-loop-v : goal.invariant-loop-v
invariant-loop-v l = (behind : List (List Cell)) → AreNotesOf behind l.voices
    → list_any (is_rough_at l.ex behind l.now) (range_with_len 0 l.v) ≡ false
