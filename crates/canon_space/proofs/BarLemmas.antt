-- The bars that are kept, from the newest to the oldest.
use Rattle.std.proofs.Common.{◌≡◌, ℕ, zero, suc, ◌-◌, ◌<◌, ◌≤◌, List, [], ◌∷◌, length, map, get_or, refl, ap, sym, ◌∙◌, arith}
use Rattle.std.proofs.lemmas.List.{get_or-reverse, length-map}
use Rattle.canon_space.specs.declared.bars.Bar.{Bar}
use Rattle.canon_space.specs.Canons.{bar_before}
use Rattle.canon_space.specs.Kept.{history_of}

cells-at : (bars : List Bar) (i : ℕ) (d : Bar) → i < length bars → get_or (map (λ (bar : Bar). bar.cells) bars) i []
    ≡ (get_or bars i d).cells
cells-at [] i d h = absurd (omega arith)
cells-at (bar ∷ bars) zero d h = refl
cells-at (bar ∷ bars) (suc i) d h = cells-at bars i d (omega arith)

-- so many bars from the end
pub bar-before : (bars : List Bar) (count : ℕ) (d : Bar) → 1 ≤ count → count ≤ length bars
    → (get_or bars (length bars - count) d).cells ≡ bar_before count (history_of bars)
bar-before bars count d h k =
    let size : length (map (λ (bar : Bar). bar.cells) bars) ≡ length bars = length-map bars (λ (bar : Bar). bar.cells) in
    let place : length (map (λ (bar : Bar). bar.cells) bars) - 1 - (count - 1) ≡ length bars - count = omega (arith, size) in
    sym (get_or-reverse (map (λ (bar : Bar). bar.cells) bars) (count - 1) [] (omega (arith, size))
    ∙ ap (λ i. get_or (map (λ (bar : Bar). bar.cells) bars) i []) place
    ∙ cells-at bars (length bars - count) d (omega arith))
