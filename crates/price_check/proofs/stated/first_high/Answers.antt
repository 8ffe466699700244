use Rattle.std.proofs.Common.{◌≡◌, ◌+◌, ℕ, Some, map, option_map, ap, sym, ◌∙◌, arith}
use Rattle.price_check.specs.PriceLines.{line_of}
use Rattle.price_check.specs.Stated.{first_above, prices_in}
use Rattle.price_check.proofs.Told.{above, counted, high_price, low_price, no_price, no_prices}
use Rattle.price_check.proofs.stated.first_high.Goals as goal

pub returns-then-price-most : goal.returns-then-price-most
returns-then-price-most c =
    let all = prices_in (map line_of c.args.lines.now) in
    let zero : 0 + c.loop-line.number ≡ c.loop-line.number = omega arith in
    sym (ap (λ (m : ℕ). first_above m all) (sym c.parts_of-most.ensures) ∙ c.loop-line.invariant.same
    ∙ ap (option_map (λ n. n + c.loop-line.number))
    (high_price c.parts_of-most.result c.args.lines.now c.loop-line.line-index c.in-Some.price c.line-item.result (omega arith)
    c.line-item.is (sym c.price_in.ensures ∙ c.in-Some.is) (omega arith)) ∙ ap (λ (m : ℕ). Some m) zero)

pub loop-line-preserved : goal.loop-line-preserved
loop-line-preserved c = record {
  same = c.loop-line.invariant.same ∙ ap (option_map (λ n. n + c.loop-line.number))
      (low_price c.parts_of-most.result c.args.lines.now c.loop-line.line-index c.in-Some.price c.line-item.result (omega arith)
      c.line-item.is (sym c.price_in.ensures ∙ c.in-Some.is) c.if-price-most.false)
      ∙ counted c.loop-line.number (above c.parts_of-most.result c.args.lines.now (c.loop-line.line-index + 1));
  few = omega (arith, c.loop-line.invariant.few);
}

pub loop-line-preserved-in_default : goal.loop-line-preserved-in_default
loop-line-preserved-in_default c = record {
  same = c.loop-line.invariant.same ∙ ap (option_map (λ n. n + c.loop-line.number))
      (no_price c.parts_of-most.result c.args.lines.now c.loop-line.line-index c.line-item.result (omega arith)
      c.line-item.is (sym c.price_in.ensures ∙ c.in_default.is));
  few = omega (arith, c.loop-line.invariant.few);
}

pub returns : goal.returns
returns c =
    let all = prices_in (map line_of c.args.lines.now) in
    sym (ap (λ (m : ℕ). first_above m all) (sym c.parts_of-most.ensures) ∙ c.loop-line.invariant.same
    ∙ ap (option_map (λ n. n + c.loop-line.number))
    (no_prices c.parts_of-most.result c.args.lines.now c.loop-line.line-index c.loop-line-test.false))
