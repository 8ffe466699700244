use Rattle.std.proofs.Common.{◌≡◌, ◌++◌, ◌^◌, List, [], ◌∷◌, take}
use Rattle.fux_grid.specs.declared.cell.Cell.{Cell}
use Rattle.melody_rules.specs.Notes.{IsNotesOf}
use Rattle.score_marker.specs.Cantus.{cantus_rule}
use Rattle.score_marker.specs.Lists.{marks_of_place}
use Rattle.score_marker.proofs.cantus.mark_place.Given as goal

abbrev pub invariant-loop-rule : goal.invariant-loop-rule
invariant-loop-rule l =
    (cells : List Cell) → IsNotesOf cells l.notes →
    l.marks.items ≡ l.fn.marks.items ++ marks_of_place (λ i rule voices. cantus_rule rule l.ex i cells l.now)
    (2 ^ l.ex.cantus_voice ∷ []) (take l.rule-index l.rule-items) l.i
