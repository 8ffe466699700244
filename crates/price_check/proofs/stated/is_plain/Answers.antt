use Rattle.std.proofs.Common.{ℕ, List, not, map, ap, ◌∙◌, arith}
use Rattle.std.specs.Prelude.{◌&&◌}
use Rattle.price_check.specs.PriceLines.{line_of}
use Rattle.price_check.specs.Stated.{has_no_keys, has_price}
use Rattle.price_check.proofs.Told.{not_plain, plain_is}
use Rattle.price_check.proofs.stated.is_plain.Goals as goal

pub returns-then-keys-eq0 : goal.returns-then-keys-eq0
returns-then-keys-eq0 c =
    let keys = ap (λ (x : ℕ × List ℕ). x.1) c.cases_of.ensures in
    ap not c.has_price.ensures
    ∙ plain_is c.cases_of.result.1.now (not (has_price (map line_of c.args.lines.now))) (omega (arith, c.if-keys-eq0.true))
    ∙ ap (λ (ks : List ℕ). has_no_keys ks && not (has_price (map line_of c.args.lines.now))) keys

pub returns : goal.returns
returns c =
    let keys = ap (λ (x : ℕ × List ℕ). x.1) c.cases_of.ensures in
    not_plain c.cases_of.result.1.now (not (has_price (map line_of c.args.lines.now))) (λ none. omega (arith, none, c.if-keys-eq0.false))
    ∙ ap (λ (ks : List ℕ). has_no_keys ks && not (has_price (map line_of c.args.lines.now))) keys
