use Rattle.std.proofs.Common.{◌+◌, ◌∷◌, [], ℕ, List, Option, ap, length, ◌∙◌, arith, length-append}
use Rattle.cert_law.specs.Alone.{IsAloneRow}
use Rattle.cert_law.proofs.AloneLemmas.{each_more}
use Rattle.cert_law.proofs.alone.rows_of.Goals as goal

pub loop-i-preserved : goal.loop-i-preserved
loop-i-preserved c =
    let before = c.loop-i.invariant in
    let pushed = c.push_reserved.ensures.items in
    let P : ℕ → List (Option ℕ) → Type 0 = λ i row. IsAloneRow c.args.ex.now i row in
    record {
      each = ap length pushed ∙ length-append c.loop-i.rows.items (_ ∷ []) ∙ ap (λ n. n + 1) before.each;
      room = omega (arith, before.room, c.push_reserved.ensures.capacity);
      alone = each_more P c.loop-i.rows.items _ _ [] c.loop-i.i before.each pushed before.alone c.in_ok-row.ensures;
    }

pub returns : goal.returns
returns c = λ i within. c.loop-i.invariant.alone i (omega (arith, within, c.loop-i.invariant.each))
