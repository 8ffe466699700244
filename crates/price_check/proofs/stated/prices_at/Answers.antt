use Rattle.std.proofs.Common.{◌≡◌, ℕ, map, List, ap, sym, ◌∙◌, arith}
use Rattle.std.specs.List.{range_with_len}
use Rattle.std.proofs.lemmas.List.{ext_get_or}
use Rattle.std.proofs.lemmas.List.FromFn.{get_or-map-range_with_len, length-map-range_with_len}
use Rattle.price_check.specs.PriceLines.{line_of}
use Rattle.price_check.specs.Stated.{price_at}
use Rattle.priced_floors.specs.declared.charges.TheConstants.{SCALE}
use Rattle.priced_floors.specs.declared.prices.TheConstants.{PITCHES}
use Rattle.priced_floors.specs.declared.prices.Prices.{Prices}
use Rattle.price_check.proofs.stated.prices_at.Goals as goal

pub returns : goal.returns
returns c =
    let f : ℕ → ℕ = price_at (map line_of c.args.lines.now) c.args.case c.args.voice in
    let now = c.loop-place.invariant in
    let strikes : c.loop-place.strikes ≡ map f (range_with_len 0 PITCHES) =
    ext_get_or 0 c.loop-place.strikes (map f (range_with_len 0 PITCHES))
    (now.long ∙ sym (length-map-range_with_len f 0 PITCHES))
    (λ k within. now.are k (omega (arith, within, now.long))
    ∙ sym (get_or-map-range_with_len f 0 PITCHES k k 0 (omega (arith, within, now.long)) (omega arith))) in
    let of : List ℕ → Prices = λ s. record { scale = SCALE; strikes = s } in
    ap of strikes
