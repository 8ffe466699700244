use Rattle.std.proofs.Common.{◌≡◌, ◌+◌, ◌-◌, [], ◌∷◌, refl, ap, ◌∙◌, arith}
use Rattle.std.specs.Fmt.{decimal}
use Rattle.std.proofs.lemmas.Fmt.{decimal_digit}
use Rattle.cert_text.proofs.StatedLemmas.{digit_begun}
use Rattle.cert_text.proofs.stated_line.after_blank.Goals as goal

pub returns-in-48-to-57 : goal.returns-in-48-to-57
returns-in-48-to-57 c =
    let byte = c.args.byte in
    let same : 48 + (byte - 48) ≡ byte = omega arith in
    let digit : decimal (byte - 48) ≡ byte ∷ [] = decimal_digit (byte - 48) (omega arith) ∙ ap (λ b. b ∷ []) same in
    (omega arith, refl, ap (λ ds. 112 ∷ 32 ∷ ds) digit, λ e. omega arith)

pub returns-in_default : goal.returns-in_default
returns-in_default c = λ b. let (least, most) = digit_begun c.args.byte b in omega arith

pub returns-in_default-2 : goal.returns-in_default-2
returns-in_default-2 c = λ b. let (least, most) = digit_begun c.args.byte b in omega arith
