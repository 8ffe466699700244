use Rattle.std.proofs.Common.{◌∷◌, ap, refl, arith}
use Rattle.cert_text.proofs.LineLemmas.{longer_rule, rule_ends}
use Rattle.cert_text.proofs.begun.after_rule.Goals as goal

pub returns-in-Some : goal.returns-in-Some
returns-in-Some c =
    let (low, high, same, least, most) = c.in-Some.ensures.some in (
      (omega arith, high),
      ap (λ ds. 98 ∷ 32 ∷ ds)
          (longer_rule c.args.rule c.args.byte c.in-Some.longer same low high least most),
      λ e. omega arith,
    )

pub returns-in-None : goal.returns-in-None
returns-in-None c = rule_ends c.args.rule c.args.byte c.requires.0 c.requires.1 c.if-byte-eq10.false
    (c.in-None.ensures.none refl)
