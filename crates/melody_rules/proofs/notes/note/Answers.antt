use Rattle.std.proofs.Common.{◌∷◌, sym, subst}
use Rattle.fux_grid.specs.declared.cell.Cell.{Cell}
use Rattle.melody_rules.specs.Notes.{IsNotesOf}
use Rattle.melody_rules.proofs.LineLemmas.{notes-hold}
use Rattle.melody_rules.proofs.notes.note.Goals as goal

pub returns-in-Hold : goal.returns-in-Hold
returns-in-Hold c = λ cells r.
    let P : Cell → Type 0 = λ d. IsNotesOf (d ∷ cells) c.args.notes.now in
    subst P (sym c.in-Hold.is) (notes-hold c.in-Hold.field-0 cells c.args.notes.now r)
