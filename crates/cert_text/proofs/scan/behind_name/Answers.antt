use Rattle.std.proofs.Common.{◌≡◌, ◌∷◌, [], length, refl, sym, ap, ◌∙◌, arith}
use Rattle.cert_text.specs.HeadRows.{PitchName, is_letter, is_sign}
use Rattle.cert_text.proofs.NameLemmas.{letter-begun, none-begun, sign-begun}
use Rattle.cert_text.proofs.PieceLemmas.{stops-at}
use Rattle.cert_text.proofs.scan.behind_name.Goals as goal

pub returns-in_default : goal.returns-in_default
returns-in_default c =
    let none : c.args.bytes.now ≡ [] = c.next.ensures.none c.in_default.is in
    stops-at PitchName c.args.bytes.now [] c.args.bytes.now 0 refl (ap length none)
    (none-begun c.args.bytes.now c.requires.two c.requires.three (λ l more e. let both = sym none ∙ e in absurd (grind (arith, both))))

pub returns-then-not-is_letter : goal.returns-then-not-is_letter
returns-then-not-is_letter c =
    stops-at PitchName c.args.bytes.now [] c.args.bytes.now (length c.args.bytes.now) refl refl
    (none-begun c.args.bytes.now c.requires.two c.requires.three
    (λ l more e.
    let both : c.in-Some.letter ∷ c.in-Some.rest.now ≡ l ∷ more = sym c.in-Some.ensures.some ∙ e in
    let same : c.in-Some.letter ≡ l = cc in
    ap is_letter (sym same) ∙ sym c.is_letter.ensures ∙ c.if-not-is_letter.true))

pub returns-in_default-next : goal.returns-in_default-next
returns-in_default-next c =
    let none : c.in-Some.rest.now ≡ [] = c.next-2.ensures.none c.in_default-next.is in
    stops-at PitchName c.args.bytes.now (c.in-Some.letter ∷ []) c.in-Some.rest.now 0 c.in-Some.ensures.some
    (ap length none)
    (letter-begun c.args.bytes.now c.requires.two c.requires.three c.in-Some.letter c.in-Some.rest.now c.in-Some.ensures.some
    (sym c.is_letter.ensures ∙ c.if-not-is_letter.false)
    (λ s rest e. let both = sym none ∙ e in absurd (grind (arith, both))))

pub returns-then-is_sign : goal.returns-then-is_sign
returns-then-is_sign c =
    let whole : c.args.bytes.now ≡ c.in-Some.letter ∷ c.in-Some-next.sign ∷ c.in-Some-next.more.now =
    c.in-Some.ensures.some ∙ ap (λ t. c.in-Some.letter ∷ t) c.in-Some-next.ensures.some in
    stops-at PitchName c.args.bytes.now (c.in-Some.letter ∷ c.in-Some-next.sign ∷ []) c.in-Some-next.more.now
    (length c.in-Some-next.more.now) whole refl
    (sign-begun c.args.bytes.now c.requires.two c.requires.three c.in-Some.letter c.in-Some-next.sign
    c.in-Some-next.more.now whole (sym c.is_letter.ensures ∙ c.if-not-is_letter.false)
    (sym c.is_sign.ensures ∙ c.if-is_sign.true))

pub returns-else-is_sign : goal.returns-else-is_sign
returns-else-is_sign c =
    stops-at PitchName c.args.bytes.now (c.in-Some.letter ∷ []) c.in-Some.rest.now (length c.in-Some.rest.now)
    c.in-Some.ensures.some refl
    (letter-begun c.args.bytes.now c.requires.two c.requires.three c.in-Some.letter c.in-Some.rest.now c.in-Some.ensures.some
    (sym c.is_letter.ensures ∙ c.if-not-is_letter.false)
    (λ s rest e.
    let both : c.in-Some-next.sign ∷ c.in-Some-next.more.now ≡ s ∷ rest = sym c.in-Some-next.ensures.some ∙ e in
    let same : c.in-Some-next.sign ≡ s = cc in
    ap is_sign (sym same) ∙ sym c.is_sign.ensures ∙ c.if-is_sign.false))
