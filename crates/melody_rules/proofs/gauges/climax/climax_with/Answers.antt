use Rattle.std.proofs.Common.{◌≡◌, ℕ, ◌+◌, ◌∷◌, arith, subst, sym}
use Rattle.melody_rules.specs.GaugeParts.{IsClimaxOf}
use Rattle.melody_rules.proofs.GaugeLemmas.{climax-bound, climax_again, climax_new, climax_under}
use Rattle.melody_rules.proofs.gauges.climax.climax_with.Goals as goal

pub returns-then-key-kept : goal.returns-then-key-kept
returns-then-key-kept c = λ ps few r. climax_new c.args.pitch ps c.semitone-key.result c.args.kept
    c.semitone-key.ensures.value c.if-key-kept.true r

pub returns-then-key-kept-2 : goal.returns-then-key-kept-2
returns-then-key-kept-2 c = λ ps few r. climax_under c.args.pitch ps c.semitone-key.result c.args.kept
    c.semitone-key.ensures.value c.if-key-kept-2.true r

pub returns : goal.returns
returns c = λ ps few r.
    let more : c.saturating_add.result ≡ c.args.kept.count + 1 = omega
    (arith, c.saturating_add.ensures, climax-bound ps c.args.kept r, few) in
    let same : c.args.kept.greatest ≡ c.semitone-key.result = omega (arith, c.if-key-kept.false, c.if-key-kept-2.false)
    in
    let P : ℕ → Type 0 = λ n. IsClimaxOf (c.args.pitch ∷ ps) (record { greatest = c.semitone-key.result; count = n }) in
    subst P (sym more) (climax_again c.args.pitch ps c.semitone-key.result c.args.kept c.semitone-key.ensures.value same
    r)
