use Rattle.std.proofs.Common.{◌||◌, ℕ, Bool, get_or, ap, sym, ◌∙◌, arith}
use Rattle.std.proofs.lemmas.List.Folds.{list_any_more}
use Rattle.fux_judge.specs.Penalties.{newly_broken_at}
use Rattle.fux_judge.proofs.late.breaks_for.Goals as goal

pub loop-bits-preserved : goal.loop-bits-preserved
loop-bits-preserved c = λ p col come among.
    let test : ℕ → Bool = λ voices. newly_broken_at c.args.rule c.args.ex.now voices p col c.args.place in
    list_any_more test c.args.sets.now c.loop-bits.bits-index 0 (omega arith)
    ∙ ap (λ b. b || test (get_or c.args.sets.now c.loop-bits.bits-index 0)) (c.loop-bits.invariant p col come among)
    ∙ sym (c.breaks_strictly_at.ensures p col come among) ∙ c.if-breaks_strictly_at.false
