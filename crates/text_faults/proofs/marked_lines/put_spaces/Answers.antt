use Rattle.std.proofs.Common.{ℕ, ◌+◌, ◌-◌, [], ◌∷◌, ◌++◌, replicate, ap, sym, ◌∙◌, append_assoc}
use Rattle.text_faults.proofs.Rows.{spaces-next}
use Rattle.text_faults.proofs.marked_lines.put_spaces.Goals as goal

pub loop-preserved : goal.loop-preserved
loop-preserved c =
    let n = c.loop.counter in
    let out = c.loop.out.items in
    let rest = replicate {A = ℕ} (c.args.count - (n + 1)) 32 in
    ap (λ t. t ++ rest) c.in_ok-push.ensures.items ∙ append_assoc out (32 ∷ []) rest
    ∙ ap (λ t. out ++ t) (sym (spaces-next n c.args.count c.loop-test.true)) ∙ c.loop.invariant
