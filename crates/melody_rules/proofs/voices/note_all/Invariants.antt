use Rattle.std.proofs.Common.{◌≡◌, ◌∷◌, List, length}
use Rattle.fux_grid.specs.declared.cell.Cell.{Cell}
use Rattle.fux_grid.specs.Columns.{line}
use Rattle.rule_law.proofs.FourLemmas.{AreBetween}
use Rattle.melody_rules.specs.Notes.{AreNotesOf, IsNotesOf}
use Rattle.melody_rules.proofs.voices.note_all.Given as goal

abbrev pub invariant-loop-v : goal.invariant-loop-v
invariant-loop-v l = record {
  long : length l.voices ≡ 4;
  each :
      (behind : List (List Cell)) → AreNotesOf behind l.initial.voices
      → AreBetween (λ v notes. IsNotesOf (line v (l.column ∷ behind)) notes) (λ v notes. IsNotesOf (line v behind) notes)
      l.v l.voices;
}
