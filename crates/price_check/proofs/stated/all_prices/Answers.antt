use Rattle.std.proofs.Common.{◌≡◌, ◌*◌, ◌++◌, ℕ, length, map, List, [], ◌∷◌, ap, sym, ◌∙◌, arith}
use Rattle.std.specs.Prelude.{◌/◌, ◌%◌}
use Rattle.std.proofs.Common.{length-append}
use Rattle.std.specs.List.{range_with_len}
use Rattle.std.proofs.lemmas.List.FromFn.{map-range_with_len_more}
use Rattle.price_check.specs.PriceLines.{line_of}
use Rattle.price_check.specs.Stated.{prices_at}
use Rattle.priced_floors.specs.declared.prices.Prices.{Prices}
use Rattle.price_check.proofs.stated.all_prices.Goals as goal

pub loop-k-preserved : goal.loop-k-preserved
loop-k-preserved c =
    let f : ℕ → Prices = λ k. prices_at (map line_of c.args.lines.now) (k / 4) (k % 4) in
    record {
      items = c.push_reserved.ensures.items
          ∙ ap (λ (ps : List Prices). ps ++ c.prices_at.result ∷ []) c.loop-k.invariant.items
          ∙ ap (λ (p : Prices). map f (range_with_len 0 c.loop-k.k) ++ p ∷ []) c.prices_at.ensures
          ∙ sym (map-range_with_len_more f 0 c.loop-k.k c.loop-k.k (omega arith));
      count = omega (
        arith,
        ap length c.push_reserved.ensures.items,
        length-append c.loop-k.all.items (c.prices_at.result ∷ []),
        c.loop-k.invariant.count,
      );
      room = omega (arith, c.push_reserved.ensures);
    }

pub returns : goal.returns
returns c =
    let f : ℕ → Prices = λ k. prices_at (map line_of c.args.lines.now) (k / 4) (k % 4) in
    let all : c.loop-k.k ≡ 4 * c.args.count = omega (arith, c.loop-k-test.false, c.loop-k.auto.k-end) in
    c.loop-k.invariant.items ∙ ap (λ (n : ℕ). map f (range_with_len 0 n)) all
