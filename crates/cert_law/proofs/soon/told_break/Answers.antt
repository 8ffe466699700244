use Rattle.std.proofs.Common.{◌≡◌, ◌+◌, ◌==◌, ◌∷◌, ◌++◌, [], ap, sym, ◌∙◌, arith}
use Rattle.std.proofs.lemmas.List.{length-append}
use Rattle.std.proofs.lemmas.Nat.Bits.{bit_at-zero}
use Rattle.rule_law.specs.Voices.{has_rule}
use Rattle.cert_law.proofs.SoonLemmas.{least_more, unlike}
use Rattle.cert_law.proofs.soon.told_break.Goals as goal

pub returns-in-Some : goal.returns-in-Some
returns-in-Some c = λ p judged on.
    let t = c.args.case.now in
    let ex = t.exercise.now in
    let col = c.args.column.now.items in
    let none : c.args.judged.now.broken.bits ≡ 0 = omega (arith, c.if-broken-ne0.false) in (
      unlike t.head.now (p ++ col ∷ []) (c.args.judged.now.state.newest.len + 1)
          (omega (arith, length-append p (col ∷ []), judged.state.newest.count))
          (sym c.if-has_length.ensures),
      least_more ex p col c.in-Some.rule
          (λ r. sym (judged.broken r) ∙ ap (λ n. has_rule n r) none ∙ ap (λ n. n == 1) (bit_at-zero r))
          (c.in-Some.ensures p judged.state on),
    )
