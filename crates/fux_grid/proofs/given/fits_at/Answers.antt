use Rattle.std.proofs.Common.{◌≡◌, ℕ, [], IsTrue, slice_index_or, ap, sym, ◌∙◌, subst, arith, inl, inr}
use Rattle.std.proofs.lemmas.Bool.{cases_lt}
use Rattle.fux_grid.specs.Cells.{cell_in}
use Rattle.fux_grid.specs.Exercises.{given_at}
use Rattle.fux_grid.specs.Givens.{fits}
use Rattle.fux_grid.proofs.given.fits_at.Goals as goal

pub loop-v-preserved : goal.loop-v-preserved
loop-v-preserved c v lt =
    let P : ℕ → Type 0 = λ v. IsTrue (fits (given_at c.args.ex.now c.args.i v)
    (cell_in (slice_index_or c.args.score.now.columns c.args.i []) v)) in
    elim (cases_lt v c.loop-v.v) [
      | inl old ↦ c.loop-v.invariant v old
      | inr new ↦
          let here : c.loop-v.v ≡ v = omega (arith, lt, new) in
          subst P here
          (ap (λ given. fits given (cell_in (slice_index_or c.args.score.now.columns c.args.i []) c.loop-v.v))
          (sym c.given_at.ensures) ∙ ap (fits c.given_at.result) (sym c.cell.ensures) ∙ sym c.fits.ensures
          ∙ c.if-not-fits.false)
    ]
