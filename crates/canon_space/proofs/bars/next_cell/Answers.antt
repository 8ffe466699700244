use Rattle.std.proofs.Common.{◌≡◌, ap, sym, ◌∙◌, arith, inl, inr}
use Rattle.std.proofs.lemmas.Bool.{cases_lt}
use Rattle.canon_space.specs.Canons.{fits}
use Rattle.canon_space.specs.Kept.{history_of}
use Rattle.canon_space.proofs.bars.next_cell.Goals as goal

pub loop-number-preserved : goal.loop-number-preserved
loop-number-preserved c = λ n from below.
    elim (cases_lt n c.loop-number.number) [
      | inl h ↦ c.loop-number.invariant n from h
      | inr h ↦ (let same : n ≡ c.loop-number.number = omega (arith, h, below) in
          rw same (ap (fits c.args.canon.now (history_of c.args.behind.now) c.args.v) (sym c.numbered_cell.ensures)
          ∙ sym c.fits.ensures ∙ c.if-fits.false))
    ]
