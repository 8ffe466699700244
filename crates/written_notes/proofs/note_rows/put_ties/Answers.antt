use Rattle.written_notes.proofs.Pushed.{pushed}
use Rattle.written_notes.specs.NoteRows.{tie_elements}
use Rattle.written_notes.proofs.note_rows.put_ties.Goals as goal

pub returns : goal.returns
unfolding tie_elements
returns c =
    pushed _ _ _ c.in_ok-put_if.ensures
    c.in_ok-put_if-2.ensures
