use Rattle.std.proofs.Common.{List, reverse, sym, subst}
use Rattle.fux_grid.specs.declared.cell.Cell.{Cell}
use Rattle.fux_grid.proofs.Histories.{reverse-push}
use Rattle.melody_rules.specs.Notes.{AreNotesOf}
use Rattle.melody_rules.proofs.book.MelodyRuleCrate.note.Goals as goal

pub returns : goal.returns
returns c = λ p long are.
    let Notes : List (List Cell) → Type 0 = λ behind. AreNotesOf behind c.note_all.new.voices in
    subst Notes (sym (reverse-push p c.args.column.now)) (c.note_all.ensures (reverse p) are)
