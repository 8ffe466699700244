use Rattle.std.proofs.Common.{◌≡◌, ◌<◌, ◌∷◌, ℕ, List, length, get_or, sym, ◌∙◌, inl, inr, arith, length-set, subst}
use Rattle.std.proofs.lemmas.Bool.{cases_lt}
use Rattle.std.proofs.lemmas.List.{get_or_past, length-map}
use Rattle.std.proofs.lemmas.Option.{slice_get-get_or, slice_get_within}
use Rattle.fux_grid.specs.declared.cell.Cell.{Cell}
use Rattle.fux_grid.specs.declared.cell.Cell.TheVariants.{Rest}
use Rattle.fux_grid.specs.Cells.{cell_in}
use Rattle.fux_grid.specs.Columns.{line}
use Rattle.fux_grid.specs.Exercises.{IsFree}
use Rattle.fux_judge.specs.declared.gauges.LineGauges.{LineGauges}
use Rattle.fux_judge.specs.GaugeStates.{IsGaugesOf}
use Rattle.rule_law.proofs.FourLemmas.{between_more}
use Rattle.fux_judge.proofs.gauges.gauge_all.Goals as goal

pub loop-v-init : goal.loop-v-init
loop-v-init c = record {
  long = c.told-kept;
  each = λ behind here are v kept is. (λ less. absurd (omega (arith, less)), λ more free. are v kept free is);
}

pub loop-v-preserved : goal.loop-v-preserved
loop-v-preserved c = record {
  long = length-set c.loop-v.kept c.loop-v.v c.gauge_if_free.new.kept ∙ c.loop-v.invariant.long;
  each = λ behind here are.
      let v = c.loop-v.v in
      let kept = c.loop-v.kept in
      let ex = c.args.ex.now in
      let Before : ℕ → LineGauges → Type 0 = λ w one. IsFree ex w → IsGaugesOf (line w (c.args.column.now ∷ behind)) one in
      let From : ℕ → LineGauges → Type 0 = λ w one. IsFree ex w → IsGaugesOf (line w behind) one in
      let Grown : Cell → Type 0 = λ cell. IsGaugesOf (cell ∷ line v behind) c.gauge_if_free.new.kept in
      let long : length (line v behind) ≡ c.args.i = length-map behind (λ col. cell_in col v) ∙ here in
      let before = c.loop-v.invariant.each behind here are in
      let old = get_or kept v c.index-kept-v.result in
      let within : v < length kept = omega (arith, c.loop-v-test.true, c.min-v-end.ensures, c.loop-v.invariant.long) in
      between_more Before From v kept c.gauge_if_free.new.kept within
      (λ free. subst Grown c.cell_of.ensures (c.gauge_if_free.ensures (line v behind) long free
      ((before v old (slice_get-get_or kept v c.index-kept-v.result within)).1 (omega arith) free)))
      before;
}

-- a line behind the last cell has a rest, which changes no gauge
pub returns : goal.returns
returns c = λ behind here are v kept free is.
    let each = c.loop-v.invariant.each behind here are v kept is in
    let inside = slice_get_within c.loop-v.kept v kept is in
    elim (cases_lt v c.loop-v.v) [
      | inl before ↦ each.0 before free
      | inr from ↦
          let Grown : Cell → Type 0 = λ cell. IsGaugesOf (cell ∷ line v behind) kept in
          subst Grown
          (sym (get_or_past c.args.column.now v Rest
          (omega (arith, from, inside, c.loop-v.invariant.long, c.loop-v-test.false, c.min-v-end.ensures))))
          (resting (line v behind) kept (each.1 from free))
    ]
  where
    resting : (cells : List Cell) (kept : LineGauges) → IsGaugesOf cells kept → IsGaugesOf (Rest ∷ cells) kept
    resting cells kept is =
        record { climax = is.climax; compass = is.compass; leaps = is.leaps; strikes = is.strikes }
