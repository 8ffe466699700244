use Rattle.std.proofs.Common.{◌≡◌, ap, sym, ◌∙◌, arith, inl, inr}
use Rattle.std.proofs.lemmas.Bool.{cases_lt}
use Rattle.cantus_space.specs.Cantus.{is_in_pool}
use Rattle.cantus_space.proofs.pools.next_of_pool.Goals as goal

pub loop-k-preserved : goal.loop-k-preserved
loop-k-preserved c = λ n from below.
    elim (cases_lt n c.loop-k.k) [
      | inl h ↦ c.loop-k.invariant n from h
      | inr h ↦ (let same : n ≡ c.loop-k.k = omega (arith, h, below) in
          rw same (ap (is_in_pool c.args.plan.now c.args.bar) (sym c.numbered_pitch.ensures) ∙ sym c.is_in_pool.ensures
          ∙ c.if-is_in_pool.false))
    ]
