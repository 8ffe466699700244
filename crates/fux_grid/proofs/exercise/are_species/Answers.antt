use Rattle.std.proofs.Common.{◌≡◌, ◌∙◌, arith, eq-eqb, sym}
use Rattle.fux_grid.proofs.exercise.are_species.Goals as goal

pub returns : goal.returns
returns c = (
  λ h. record {
    free = λ v free. c.loop-v.invariant v (omega (arith, free.there)) free;
    cantus = sym c.species_at.ensures ∙ (let e : c.species_at.result ≡ 1 = grind arith in e);
  },
  λ species. eq-eqb _ _ (c.species_at.ensures ∙ species.cantus),
)
