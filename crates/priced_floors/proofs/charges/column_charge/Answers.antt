use Rattle.std.proofs.Common.{ℕ, arith, ap, ◌∙◌, if◌then◌else◌}
use Rattle.fux_grid.specs.Cells.{cell_in}
use Rattle.rule_law.specs.Terms.{started_pitch}
use Rattle.rule_law.specs.Voices.{is_free}
use Rattle.fux_judge.proofs.LineLemmas.{sum_kept-on}
use Rattle.priced_floors.specs.Charges.{note_charge, prices_of, summit_of}
use Rattle.priced_floors.proofs.charges.column_charge.Goals as goal

pub loop-v-preserved : goal.loop-v-preserved
loop-v-preserved c =
    let charges = c.args.charges.now in
    let f : ℕ → ℕ = λ v. note_charge (prices_of charges c.args.case v) (summit_of charges c.args.case v)
    (started_pitch (cell_in c.args.column.now.items v)) in
    record {
      value = sum_kept-on f (is_free c.args.ex.now) c.loop-v.v c.args.ex.now.voices c.loop-v.sum
          c.voice_charge-sum.result _ (omega (arith, c.loop-v-test.true))
          (c.voice_charge-sum.ensures.value
          ∙ ap (λ cell. if is_free c.args.ex.now c.loop-v.v
          then note_charge (prices_of charges c.args.case c.loop-v.v) (summit_of charges c.args.case c.loop-v.v)
          (started_pitch cell) else 0)
          (c.cell_of-cell.ensures ∙ ap (λ cells. cell_in cells c.loop-v.v) c.as_slice.ensures.value))
          c.loop-v.invariant.value;
      small = omega (arith, c.loop-v.invariant.small, c.voice_charge-sum.ensures.small);
    }
