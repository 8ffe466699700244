use Rattle.std.proofs.Common.{◌≡◌, ◌*◌, ◌^◌, [], ◌∷◌}
use Rattle.melody_rules.specs.Notes.{IsNotesOf}
use Rattle.score_marker.specs.Cantus.{cantus_before, cantus_rules}
use Rattle.score_marker.specs.Lists.{marks_of_places}
use Rattle.score_marker.proofs.CantusLemmas.{bar_lines, cantus_test}
use Rattle.score_marker.proofs.cantus.cantus_marks.Given as goal

abbrev pub invariant-loop-bar : goal.invariant-loop-bar
invariant-loop-bar l = record {
  marks : l.marks.items ≡ marks_of_places (cantus_test l.ex) (2 ^ l.ex.cantus_voice ∷ []) cantus_rules
      (bar_lines l.bar);
  notes : IsNotesOf (cantus_before l.ex (8 * l.bar)) l.notes;
}
