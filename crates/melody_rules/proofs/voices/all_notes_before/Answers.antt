use Rattle.std.proofs.Common.{ℕ}
use Rattle.fux_grid.specs.Columns.{line, earlier}
use Rattle.melody_rules.specs.declared.notes.VoiceNotes.{VoiceNotes}
use Rattle.melody_rules.specs.Notes.{IsNotesOf}
use Rattle.rule_law.proofs.FourLemmas.{each_of_four}
use Rattle.melody_rules.proofs.voices.all_notes_before.Goals as goal

pub returns : goal.returns
returns c =
    each_of_four (λ (v : ℕ) (notes : VoiceNotes). IsNotesOf (line v (earlier c.args.score.now.columns c.args.n)) notes)
    _ _ _ _
    c.notes_before.ensures c.notes_before-2.ensures c.notes_before-3.ensures c.notes_before-4.ensures
