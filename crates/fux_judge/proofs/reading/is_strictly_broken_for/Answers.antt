use Rattle.std.proofs.Common.{◌&&◌, ◌||◌, ℕ, Bool, length, ap, sym, ◌∙◌, arith}
use Rattle.std.proofs.lemmas.List.Folds.{list_any_more}
use Rattle.fux_judge.specs.Penalties.{is_strict_at}
use Rattle.fux_judge.specs.Moments.{is_broken_then}
use Rattle.fux_judge.proofs.reading.is_strictly_broken_for.Goals as goal

pub loop-bits-preserved : goal.loop-bits-preserved
loop-bits-preserved c = λ p after.
    let test : ℕ → Bool = λ voices. is_broken_then c.args.rule voices p c.args.m.now
    && is_strict_at c.args.rule c.args.m.now.exercise.now voices (length p) in
    list_any_more test c.args.sets.now c.loop-bits.bits-index 0 (omega arith)
    ∙ ap (λ b. b || test (lib.ListN.get_or c.args.sets.now c.loop-bits.bits-index 0)) (c.loop-bits.invariant p after)
    ∙ sym (c.is_strictly_broken.ensures p after) ∙ c.if-is_strictly_broken.false
