use Rattle.std.proofs.Common.{ap, codes}
use Rattle.written_notes.proofs.Pushed.{pushed, said}
use Rattle.written_notes.specs.NoteRows.{if_shown, notations}
use Rattle.written_notes.proofs.note_rows.put_notations.Goals as goal

pub returns : goal.returns
unfolding notations
returns c =
    pushed _ _ _ (pushed _ _ _ (pushed _ _ _ (said _ c.in_ok-put_if.ensures (ap (λ shown. if_shown shown (codes "<notations>")) c.is_tied-tied.ensures))
    c.in_ok-put_if-2.ensures)
    c.in_ok-put_if-3.ensures)
    (said _ c.in_ok-put_if-4.ensures (ap (λ shown. if_shown shown (codes "</notations>")) c.is_tied-tied.ensures))
