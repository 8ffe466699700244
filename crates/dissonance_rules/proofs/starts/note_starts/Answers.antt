use Rattle.std.proofs.Common.{◌≡◌, ◌<◌, ◌∷◌, ◌++◌, [], ℕ, false, length, ap, ◌∙◌, inl, inr, arith, length-set}
use Rattle.std.proofs.lemmas.Bool.{cases_lt}
use Rattle.std.proofs.lemmas.List.{get_or_past}
use Rattle.std.proofs.lemmas.Option.{slice_get-get_or, slice_get_within}
use Rattle.fux_grid.specs.declared.cell.Cell.TheVariants.{Rest}
use Rattle.fux_grid.specs.Cells.{cell_in}
use Rattle.fux_grid.specs.Exercises.{species_in}
use Rattle.rule_law.proofs.FourLemmas.{between_more}
use Rattle.rule_law.specs.Terms.{starts}
use Rattle.dissonance_rules.specs.declared.starts.LatestStarts.{LatestStarts}
use Rattle.dissonance_rules.specs.Starts.{IsStartsOf}
use Rattle.dissonance_rules.proofs.LatestNotes.{starts-same}
use Rattle.dissonance_rules.proofs.starts.note_starts.Goals as goal

pub loop-v-init : goal.loop-v-init
loop-v-init c = record {
  long = c.told-voices;
  each = λ p long are v kept is. (λ less. absurd (omega (arith, less)), λ more. are v kept is);
}

pub loop-v-preserved : goal.loop-v-preserved
loop-v-preserved c = record {
  long = length-set c.loop-v.voices c.loop-v.v c.note_cell.new.kept ∙ c.loop-v.invariant.long;
  each = λ p long are.
      let v = c.loop-v.v in
      let voices = c.loop-v.voices in
      let Before : ℕ → LatestStarts → Type 0 = λ w kept. IsStartsOf (species_in c.args.ex.now w) (p ++ c.args.column.now ∷ []) w kept in
      let From : ℕ → LatestStarts → Type 0 = λ w kept. IsStartsOf (species_in c.args.ex.now w) p w kept in
      let within : v < length voices = omega (arith, c.loop-v-test.true, c.min-v-end.ensures, c.loop-v.invariant.long) in
      let before = c.loop-v.invariant.each p long are in
      between_more Before From v voices c.note_cell.new.kept within
      (c.note_cell.ensures p c.args.column.now long c.cell_of.ensures
      ((before v _ (slice_get-get_or voices v _ within)).1 (omega arith)))
      before;
}

-- a voice behind the last cell starts no note
pub returns : goal.returns
returns c = λ p long are v kept is.
    let each = c.loop-v.invariant.each p long are v kept is in
    let inside = slice_get_within c.loop-v.voices v kept is in
    elim (cases_lt v c.loop-v.v) [
      | inl before ↦ each.0 before
      | inr from ↦
          let silent : starts (cell_in c.args.column.now v) ≡ false = ap starts
          (get_or_past c.args.column.now v Rest
          (omega (arith, from, inside, c.loop-v.invariant.long, c.loop-v-test.false, c.min-v-end.ensures))) in
          starts-same p c.args.column.now v (species_in c.args.ex.now v) kept silent (each.1 from)
    ]
