use Rattle.std.proofs.Common.{ℕ, ◌+◌, ◌-◌, [], ◌∷◌, ◌++◌, replicate, string_bytes, arith, ap, sym, ◌∙◌}
use Rattle.score_print.proofs.RowSteps.{moved, spaces-next}
use Rattle.score_print.proofs.cells.put_spaces.Goals as goal

pub loop-preserved : goal.loop-preserved
loop-preserved c =
    let count = c.args.count in
    let n = c.loop.counter in
    let whole = string_bytes c.args.out.now ++ replicate {A = ℕ} count 32 in
    moved (string_bytes c.loop.out) (string_bytes c.push.new.self) (32 ∷ [])
    (replicate {A = ℕ} (count - (n + 1)) 32) whole
    (c.in_ok-push.ensures.bytes
    ∙ ap (λ text. string_bytes c.loop.out ++ text) (c.in_ok-push.ensures.ascii (omega arith)))
    (ap (λ t. string_bytes c.loop.out ++ t) (sym (spaces-next n count c.loop-test.true)) ∙ c.loop.invariant)
