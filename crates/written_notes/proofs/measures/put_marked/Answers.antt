use Rattle.std.proofs.Common.{ap, ◌∙◌}
use Rattle.written_notes.proofs.Pushed.{pushed, said}
use Rattle.written_notes.specs.Measures.{marked_row, rules_row}
use Rattle.written_notes.proofs.measures.put_marked.Goals as goal

pub returns : goal.returns
unfolding marked_row
returns c =
    pushed _ _ _ (said _ c.in_ok-put_rules_row.ensures (ap rules_row (c.deref.ensures.0 ∙ c.rules_at.ensures)))
    c.in_ok-put_note.ensures
