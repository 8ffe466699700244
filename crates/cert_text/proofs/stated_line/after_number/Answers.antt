use Rattle.std.proofs.Common.{◌<◌, ◌^◌, ◌∷◌, refl, ap, arith}
use Rattle.cert_text.proofs.StatedLemmas.{longer_number, number_ends}
use Rattle.cert_text.proofs.stated_line.after_number.Goals as goal

pub returns-in-Some : goal.returns-in-Some
returns-in-Some c =
    let (some, same, least, most) = c.in-Some.ensures.some in
    let small : c.in-Some.longer < 2 ^ 32 = omega arith in (
      small,
      refl,
      ap (λ ds. 112 ∷ 32 ∷ ds)
          (longer_number c.args.number c.args.byte c.in-Some.longer some same (omega (arith, small)) least most),
      λ e. omega (arith, e, least),
    )

pub returns-in-None : goal.returns-in-None
returns-in-None c =
    number_ends c.args.number c.args.byte c.requires c.if-byte-eq10.false (c.in-None.ensures.none refl)
