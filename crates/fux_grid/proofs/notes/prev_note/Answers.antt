use Rattle.std.proofs.Common.{Option, MatchOption, sym, subst}
use Rattle.fux_grid.specs.declared.cell.Note.{Note}
use Rattle.fux_grid.specs.Notes.{IsPreviousNote}
use Rattle.fux_grid.proofs.NoteLemmas.{NonePrevious, previous-from_line, previous-exactly, previous-before}
use Rattle.fux_grid.proofs.notes.prev_note.Goals as goal

is_previous : (c : goal.After-note_behind)
    → MatchOption c.note_behind.result (NonePrevious c.args.score.now.columns c.args.v c.args.i)
    (IsPreviousNote c.args.score.now.columns c.args.v c.args.i)
is_previous c =
    let P : Option Note → Type 0 = λ r. MatchOption r (NonePrevious c.args.score.now.columns c.args.v c.args.i)
    (IsPreviousNote c.args.score.now.columns c.args.v c.args.i) in
    subst P (sym c.note_behind.ensures.value)
    (previous-from_line c.args.score.now.columns c.args.v c.note_start.result c.args.i c.note_start.ensures.bound
    c.requires c.note_start.ensures.begins c.note_start.ensures.held)

pub returns-clause-found : goal.returns-clause-found
returns-clause-found c =
    (previous-exactly c.args.score.now.columns c.args.v c.args.i c.note_behind.result (is_previous c)).0

pub returns-clause-none : goal.returns-clause-none
returns-clause-none c =
    (previous-exactly c.args.score.now.columns c.args.v c.args.i c.note_behind.result (is_previous c)).1

pub returns-clause-before : goal.returns-clause-before
returns-clause-before c =
    previous-before c.args.score.now.columns c.args.v c.args.i c.note_behind.result (is_previous c)
