use Rattle.std.proofs.Common.{◌∷◌, length, ap, sym}
use Rattle.std.proofs.lemmas.Fmt.{decimal_digit}
use Rattle.cert_text.proofs.LineLemmas.{two_digits}
use Rattle.cert_text.proofs.begun.rule_len.Goals as goal

pub returns-then-rule-lt10 : goal.returns-then-rule-lt10
returns-then-rule-lt10 c = ap (λ ds. length (98 ∷ 32 ∷ ds)) (sym (decimal_digit c.args.rule c.if-rule-lt10.true))

pub returns-else-rule-lt10 : goal.returns-else-rule-lt10
returns-else-rule-lt10 c = ap (λ ds. length (98 ∷ 32 ∷ ds))
    (sym (two_digits c.args.rule c.if-rule-lt10.false c.requires.1))
