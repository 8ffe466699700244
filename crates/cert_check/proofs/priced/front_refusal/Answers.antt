use Rattle.std.proofs.Common.{◌∙◌, arith, map, sym}
use Rattle.std.proofs.lemmas.List.{length-map}
use Rattle.price_check.specs.PriceLines.{line_of}
use Rattle.cert_check.proofs.PricedLemmas.{high_within}
use Rattle.cert_check.proofs.priced.front_refusal.Goals as goal

pub prove-unreachable-requires : goal.prove-unreachable-requires
prove-unreachable-requires c =
    omega (
      arith,
      high_within _ c.in_ok-before.before (map line_of c.args.lines.now)
          (sym c.first_high.ensures ∙ c.in_ok-before.was),
      length-map c.args.lines.now line_of,
    )
