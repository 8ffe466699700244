use Rattle.std.proofs.Common.{◌≡◌, ◌+◌, ◌-◌, ap, slice_index_or, ◌∙◌, subst, arith}
use Rattle.std.proofs.lemmas.List.{get_or_default}
use Rattle.fux_grid.proofs.GivenLemmas.{AscendTo, ascend-more}
use Rattle.fux_grid.proofs.given.given_ascend.Goals as goal

pub loop-k-preserved : goal.loop-k-preserved
loop-k-preserved c =
    let m = c.loop-k.k - 1 in
    let here : c.loop-k.k ≡ m + 1 = omega arith in
    let next : m + 2 ≡ c.loop-k.k + 1 = omega arith in
    subst (AscendTo c.args.lines.now) next
    (ascend-more c.args.lines.now m (subst (AscendTo c.args.lines.now) here c.loop-k.invariant)
    (λ d.
    let lower = c.index-lines-k.is ∙ get_or_default c.args.lines.now m c.index-lines-k.result d (omega arith) in
    let upper = c.index-lines-k-in-loop-k.is
    ∙ get_or_default c.args.lines.now c.loop-k.k c.index-lines-k-in-loop-k.result d (omega arith)
    ∙ ap (λ n. slice_index_or c.args.lines.now n d) here in
    rw (← lower, ← upper) (c.is_earlier.ensures.0 c.if-not-is_earlier.false)))
