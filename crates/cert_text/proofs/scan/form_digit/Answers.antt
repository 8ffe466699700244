use Rattle.std.proofs.Common.{◌≡◌, ◌∷◌, [], length, sym, ap, subst, ◌∙◌, arith}
use Rattle.cert_text.specs.HeadRows.{FormDigit}
use Rattle.cert_text.specs.Pieces.{Stops}
use Rattle.cert_text.proofs.HeadStops.{no_digit-stops}
use Rattle.cert_text.proofs.scan.form_digit.Goals as goal

pub returns-in_default-clause-err : goal.returns-in_default-clause-err
returns-in_default-clause-err c =
    let none : c.args.bytes.now ≡ [] = c.next.ensures.none c.in_default.is in
    subst (Stops (FormDigit c.args.last) c.args.bytes.now) (ap length none)
    (no_digit-stops c.args.last c.args.bytes.now (λ b more e form among digit.
    let both : [] ≡ b ∷ more = sym none ∙ e in
    absurd (grind (arith, both))))

pub returns-in-None-clause-err : goal.returns-in-None-clause-err
returns-in-None-clause-err c =
    no_digit-stops c.args.last c.args.bytes.now (λ b more e form among digit.
    let both : c.in-Some.byte ∷ c.in-Some.rest.now ≡ b ∷ more = sym c.in-Some.ensures.some ∙ e in
    let same : c.in-Some.byte ≡ b = cc in
    c.form_of.ensures.none c.in-None.is form among (same ∙ digit))

pub returns-in-Some-form_of-clause-ok : goal.returns-in-Some-form_of-clause-ok
returns-in-Some-form_of-clause-ok c = (
  c.in-Some.byte ∷ [],
  c.in-Some.ensures.some,
  (c.in-Some-form_of.ensures.some.0, ap (λ b. b ∷ []) c.in-Some-form_of.ensures.some.1),
)
