use Rattle.std.proofs.Common.{◌<◌, ◌∷◌, ℕ, length, get_or, sym, subst, ◌∙◌, inl, inr, arith, length-set}
use Rattle.std.proofs.lemmas.Bool.{cases_lt}
use Rattle.std.proofs.lemmas.List.{get_or_past}
use Rattle.std.proofs.lemmas.Option.{slice_get-get_or, slice_get_within}
use Rattle.fux_grid.specs.declared.cell.Cell.{Cell}
use Rattle.fux_grid.specs.declared.cell.Cell.TheVariants.{Rest}
use Rattle.fux_grid.specs.Columns.{line}
use Rattle.rule_law.proofs.FourLemmas.{between_more}
use Rattle.melody_rules.specs.declared.notes.VoiceNotes.{VoiceNotes}
use Rattle.melody_rules.specs.Notes.{IsNotesOf}
use Rattle.melody_rules.proofs.LineLemmas.{notes-rest}
use Rattle.melody_rules.proofs.voices.note_all.Goals as goal

pub loop-v-init : goal.loop-v-init
loop-v-init c = record {
  long = c.told-voices;
  each = λ behind are v notes is. (λ less. absurd (omega (arith, less)), λ more. are v notes is);
}

pub loop-v-preserved : goal.loop-v-preserved
loop-v-preserved c = record {
  long = length-set c.loop-v.voices c.loop-v.v c.note.new.notes ∙ c.loop-v.invariant.long;
  each = λ behind are.
      let v = c.loop-v.v in
      let voices = c.loop-v.voices in
      let Before : ℕ → VoiceNotes → Type 0 = λ w notes. IsNotesOf (line w (c.args.column.now ∷ behind)) notes in
      let From : ℕ → VoiceNotes → Type 0 = λ w notes. IsNotesOf (line w behind) notes in
      let Grown : Cell → Type 0 = λ cell. IsNotesOf (cell ∷ line v behind) c.note.new.notes in
      let within : v < length voices = omega (arith, c.loop-v-test.true, c.min-v-end.ensures, c.loop-v.invariant.long) in
      let before = c.loop-v.invariant.each behind are in
      let old = get_or voices v c.index-voices-v.result in
      between_more Before From v voices c.note.new.notes within
      (subst Grown c.cell_of.ensures (c.note.ensures (line v behind)
      ((before v old (slice_get-get_or voices v c.index-voices-v.result within)).1 (omega arith))))
      before;
}

-- a voice behind the last cell has a rest, which changes no notes
pub returns : goal.returns
returns c = λ behind are v notes is.
    let each = c.loop-v.invariant.each behind are v notes is in
    let inside = slice_get_within c.loop-v.voices v notes is in
    elim (cases_lt v c.loop-v.v) [
      | inl before ↦ each.0 before
      | inr from ↦
          let Grown : Cell → Type 0 = λ cell. IsNotesOf (cell ∷ line v behind) notes in
          subst Grown
          (sym (get_or_past c.args.column.now v Rest
          (omega (arith, from, inside, c.loop-v.invariant.long, c.loop-v-test.false, c.min-v-end.ensures))))
          (notes-rest (line v behind) notes (each.1 from))
    ]
